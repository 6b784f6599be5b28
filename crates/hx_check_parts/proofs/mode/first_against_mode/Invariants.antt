use Rattle.hx_check_parts.specs.Marks.{IsAllowedAt}
use Rattle.hx_check_parts.specs.Each.{HoldsBelow}
use Rattle.hx_check_parts.proofs.mode.first_against_mode.Given as goal

abbrev pub invariant-loop-k : goal.invariant-loop-k
invariant-loop-k l = HoldsBelow (IsAllowedAt l.rules) l.marks l.k
