use Rattle.std.proofs.Common.{All, take}
use Rattle.hx_transcripts_parts.specs.RecordLaws.{FitsTotals}
use Rattle.hx_transcripts.proofs.fits.totals_fit.Given as goal

abbrev pub invariant-loop-sums : goal.invariant-loop-sums
invariant-loop-sums l = All FitsTotals (take l.sums-index l.totals)
