use Rattle.std.proofs.Common.{◌≡◌, ◌∙◌, sym, ap, get_or, arith}
use Rattle.hx_frame.specs.declared.state.ChunkState.{ChunkState}
use Rattle.hx_frame.specs.Chunks.{step, read_chunks}
use Rattle.hx_frame.proofs.RunLemmas.{read_data, first_good, first_bad}
use Rattle.hx_frame.proofs.read.read_some.Goals as goal
use Rattle.hx_frame.proofs.read.read_some.Goals.{in_default-via-in-Start-1, in_default-via-in-Data+else-left-gt0}

pub returns-clause-read : goal.returns-clause-read
returns-clause-read c =
    ap (λ (s : ChunkState). read_chunks s c.args.piece.now) c.in-Data.is
    ∙ read_data c.least-used.result c.in-Data.left c.args.piece.now (omega arith) (omega arith)

pub returns-then-is_bad-clause-read : goal.returns-then-is_bad-clause-read
returns-then-is_bad-clause-read c =
    let same : c.in_default.state ≡ c.args.state = elim c.in_default.branch [ in_default-via-in-Start-1 w ↦ w.state-is | in_default-via-in-Data+else-left-gt0 w ↦ w.state-is ∙ sym w.in-Data.is ] in
    first_bad c.args.state c.after-next.result c.args.piece.now c.requires.some c.requires.open
    (c.after-next.ensures.step ∙ ap (λ (s : ChunkState). step s (get_or c.args.piece.now 0 0)) same)
    (sym c.is_bad.ensures ∙ c.if-is_bad.true)

pub returns-else-is_bad-clause-read : goal.returns-else-is_bad-clause-read
returns-else-is_bad-clause-read c =
    let same : c.in_default.state ≡ c.args.state = elim c.in_default.branch [ in_default-via-in-Start-1 w ↦ w.state-is | in_default-via-in-Data+else-left-gt0 w ↦ w.state-is ∙ sym w.in-Data.is ] in
    first_good c.args.state c.after-next.result c.args.piece.now c.requires.some c.requires.open
    (c.after-next.ensures.step ∙ ap (λ (s : ChunkState). step s (get_or c.args.piece.now 0 0)) same)
    (sym c.is_bad.ensures ∙ c.if-is_bad.false)
