use Rattle.std.proofs.Common.{◌≡◌, ◌∙◌, sym, true}
use Rattle.hx_frame.specs.Chunks.{is_over}
use Rattle.hx_frame.proofs.RunLemmas.{stops_over, stops_whole}
use Rattle.hx_frame.proofs.read.read_chunks.Goals as goal

pub returns-else-not-is_over-clause-read : goal.returns-else-not-is_over-clause-read
returns-else-not-is_over-clause-read c =
    let over : is_over c.loop-read.read.state ≡ true = sym c.is_over.ensures ∙ c.if-not-is_over.false in
    sym (c.loop-read.invariant.read ∙ stops_over c.loop-read.read.used c.loop-read.read.state _ over)

pub returns-after-loop-read-clause-read : goal.returns-after-loop-read-clause-read
returns-after-loop-read-clause-read c =
    sym (c.loop-read.invariant.read ∙ stops_whole c.loop-read.read.used c.loop-read.read.state c.args.piece.now c.loop-read-test.false)
