use Rattle.std.proofs.Common.{length}
use Rattle.hx_script.specs.PrintedForm.{ClientBefore, Rises}
use Rattle.hx_told.proofs.order.clients_rise.Given as goal

abbrev pub invariant-loop-client : goal.invariant-loop-client
invariant-loop-client l = Rises ClientBefore l.left → Rises ClientBefore l.fn.clients

abbrev pub decreases-loop-client : goal.decreases-loop-client
decreases-loop-client l = length l.left
