use Rattle.std.proofs.Common.{◌≡◌, drop}
use Rattle.hx_pool.specs.Totals.{totals_from, totals_of}
use Rattle.hx_stats.proofs.tally.TotalsTally.of.Given as goal

abbrev pub invariant-loop-entry : goal.invariant-loop-entry
invariant-loop-entry l = totals_from l.totals (drop l.entry-index l.entries) ≡ totals_of l.entries
