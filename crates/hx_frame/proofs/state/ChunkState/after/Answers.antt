use Rattle.std.proofs.Common.{sym, subst, IsTrue}
use Rattle.hx_frame.specs.declared.state.ChunkState.{ChunkState}
use Rattle.hx_frame.specs.Chunks.{is_small}
use Rattle.hx_frame.proofs.RunLemmas.{small_size}
use Rattle.hx_frame.proofs.state.ChunkState.after.Goals as goal

pub returns-in-Size-clause-small : goal.returns-in-Size-clause-small
returns-in-Size-clause-small c =
    subst (λ (s : ChunkState). IsTrue (is_small s)) (sym c.in_size.ensures)
    (small_size c.in-Size.size c.in-Size.room c.args.byte (subst (λ (s : ChunkState). IsTrue (is_small s)) c.in-Size.is c.requires))
