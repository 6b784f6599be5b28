use Rattle.std.proofs.Common.{◌≡◌, sym, ap, subst, ◌∙◌}
use Rattle.hx_frame.specs.declared.state.ChunksRead.{ChunksRead}
use Rattle.hx_frame.specs.declared.state.BodyState.{BodyState}
use Rattle.hx_frame.specs.declared.state.BodyState.TheVariants.{Chunks}
use Rattle.hx_frame.specs.Chunks.{chunks_read, read_chunks}
use Rattle.hx_frame.specs.States.{LeadsOn}
use Rattle.hx_frame.proofs.MeterLemmas.{chunks_lead}
use Rattle.hx_frame.proofs.read.read_body.Goals as goal

pub returns-in-Chunks-clause-leads : goal.returns-in-Chunks-clause-leads
returns-in-Chunks-clause-leads c =
    let piece = c.args.piece.now in
    subst (λ (s : BodyState). LeadsOn s piece c.read_chunks-read.result.used (Chunks c.read_chunks-read.result.state)) (sym c.in-Chunks.is)
    (subst (λ (r : ChunksRead). LeadsOn (Chunks c.in-Chunks.state) piece r.used (Chunks r.state)) (sym c.read_chunks-read.ensures.read)
    (chunks_lead c.in-Chunks.state piece))

pub returns-in-Chunks-clause-nothing : goal.returns-in-Chunks-clause-nothing
unfolding read_chunks
returns-in-Chunks-clause-nothing c none =
    let is : c.read_chunks-read.result ≡ chunks_read 0 c.in-Chunks.state = c.read_chunks-read.ensures.read ∙ ap (read_chunks c.in-Chunks.state) none in
    ap (λ (r : ChunksRead). Chunks r.state) is ∙ sym c.in-Chunks.is
