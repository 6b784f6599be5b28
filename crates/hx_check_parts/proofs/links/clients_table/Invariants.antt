use Rattle.hx_check_parts.specs.Found.{FindsClientsIn}
use Rattle.hx_check_parts.proofs.links.clients_table.Given as goal

abbrev pub invariant-loop-k : goal.invariant-loop-k
invariant-loop-k l = FindsClientsIn l.list l.k l.table
