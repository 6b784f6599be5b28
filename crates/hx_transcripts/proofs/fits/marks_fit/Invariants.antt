use Rattle.std.proofs.Common.{All, take}
use Rattle.hx_transcripts_parts.specs.MarkLaws.{FitsMark}
use Rattle.hx_transcripts.proofs.fits.marks_fit.Given as goal

abbrev pub invariant-loop-mark : goal.invariant-loop-mark
invariant-loop-mark l = All FitsMark (take l.mark-index l.marks)
