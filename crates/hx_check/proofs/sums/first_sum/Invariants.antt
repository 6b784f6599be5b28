use Rattle.hx_check_parts.specs.Each.{HoldsBelow}
use Rattle.hx_check.specs.Rules.{SumIn}
use Rattle.hx_check.proofs.sums.first_sum.Given as goal

abbrev pub invariant-loop-k : goal.invariant-loop-k
invariant-loop-k l = HoldsBelow (SumIn l.servers) l.totals l.k
