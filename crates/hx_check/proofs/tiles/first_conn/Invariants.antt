use Rattle.hx_check_parts.specs.Each.{HoldsBelow}
use Rattle.hx_check.specs.Rules.{ConnIn}
use Rattle.hx_check.proofs.tiles.first_conn.Given as goal

abbrev pub invariant-loop-k : goal.invariant-loop-k
invariant-loop-k l = HoldsBelow (ConnIn l.records) l.conns l.k
