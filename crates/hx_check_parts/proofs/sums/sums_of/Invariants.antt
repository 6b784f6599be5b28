use Rattle.std.proofs.Common.{◌≡◌, take}
use Rattle.hx_pool.specs.Totals.{totals_of}
use Rattle.hx_check_parts.proofs.sums.sums_of.Given as goal

abbrev pub invariant-loop-mark : goal.invariant-loop-mark
invariant-loop-mark l = l.totals ≡ totals_of (take l.mark-index l.marks)
