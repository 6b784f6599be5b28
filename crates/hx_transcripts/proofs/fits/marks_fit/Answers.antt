use Rattle.std.proofs.Common.{All, subst, arith}
use Rattle.std.proofs.lemmas.List.{take_all}
use Rattle.std.proofs.lemmas.List.Elements.{All-more}
use Rattle.hx_transcripts_parts.specs.MarkLaws.{FitsMark}
use Rattle.hx_transcripts.proofs.fits.marks_fit.Goals as goal

pub loop-mark-preserved : goal.loop-mark-preserved
loop-mark-preserved c = All-more FitsMark c.args.marks.now c.loop-mark.mark-index _ (omega arith) c.loop-mark.invariant c.mark_fits.ensures

pub returns : goal.returns
returns c = subst (All FitsMark) (take_all c.loop-mark.mark-index c.args.marks.now (omega arith)) c.loop-mark.invariant
