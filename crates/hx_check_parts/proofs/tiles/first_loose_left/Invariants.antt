use Rattle.hx_check_parts.specs.Each.{HoldsBelow}
use Rattle.hx_check_parts.specs.Tiling.{IsLastOf}
use Rattle.hx_check_parts.proofs.tiles.first_loose_left.Given as goal

abbrev pub invariant-loop-k : goal.invariant-loop-k
invariant-loop-k l = HoldsBelow (IsLastOf l.clients l.records) l.records l.k
