use Rattle.hx_check_parts.specs.Each.{HoldsBelow}
use Rattle.hx_check_parts.specs.Ranges.{HasLeftAt}
use Rattle.hx_check_parts.proofs.tiles.first_without_left.Given as goal

abbrev pub invariant-loop-k : goal.invariant-loop-k
invariant-loop-k l = HoldsBelow (HasLeftAt l.records) l.clients l.k
