use Rattle.std.proofs.Common.{All, subst, arith}
use Rattle.std.proofs.lemmas.List.{take_all}
use Rattle.std.proofs.lemmas.List.Elements.{All-more}
use Rattle.hx_transcripts_parts.specs.RecordLaws.{FitsTotals}
use Rattle.hx_transcripts.proofs.fits.totals_fit.Goals as goal

pub loop-sums-preserved : goal.loop-sums-preserved
loop-sums-preserved c = All-more FitsTotals c.args.totals.now c.loop-sums.sums-index _ (omega arith) c.loop-sums.invariant c.sums_fit.ensures

pub returns : goal.returns
returns c = subst (All FitsTotals) (take_all c.loop-sums.sums-index c.args.totals.now (omega arith)) c.loop-sums.invariant
