use Rattle.std.proofs.Common.{◌+◌}
use Rattle.hx_check_parts.specs.Each.{HoldsBelow}
use Rattle.hx_check_parts.specs.Marks.{table_before, IsWithinAt}
use Rattle.hx_check_parts.specs.Last.{CountsRests, AreFew}
use Rattle.hx_check_parts.proofs.limit.first_past_limit.Given as goal

abbrev pub invariant-loop-k : goal.invariant-loop-k
invariant-loop-k l = record {
  below : HoldsBelow (IsWithinAt l.rules l.marks) l.marks l.k;
  tells : CountsRests (table_before l.marks l.k) l.rests.rows l.rests.all;
  few : AreFew (l.k + 1) l.rests.rows l.rests.all;
}
