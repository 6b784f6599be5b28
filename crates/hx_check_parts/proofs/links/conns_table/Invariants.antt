use Rattle.hx_check_parts.specs.Found.{FindsConnsIn}
use Rattle.hx_check_parts.proofs.links.conns_table.Given as goal

abbrev pub invariant-loop-k : goal.invariant-loop-k
invariant-loop-k l = FindsConnsIn l.list l.k l.table
