use Rattle.std.proofs.Common.{◌+◌, ◌≤◌}
use Rattle.hx_check_parts.specs.Each.{HoldsBelow}
use Rattle.hx_check_parts.specs.Marks.{table_before, IsStepAt}
use Rattle.hx_check_parts.specs.Last.{Counts}
use Rattle.hx_check_parts.specs.Lasts.{Keeps}
use Rattle.hx_check_parts.proofs.legal.first_illegal_by_tables.Given as goal

abbrev pub invariant-loop-k : goal.invariant-loop-k
invariant-loop-k l = record {
  below : HoldsBelow (IsStepAt l.marks) l.marks l.k;
  numbers : Counts (table_before l.marks l.k) l.numbers.next l.numbers.round;
  keeps : Keeps (table_before l.marks l.k) l.lasts;
  small : l.numbers.next ≤ l.k + 1;
}
