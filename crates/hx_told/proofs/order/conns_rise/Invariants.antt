use Rattle.std.proofs.Common.{length}
use Rattle.hx_script.specs.PrintedForm.{ConnBefore, Rises}
use Rattle.hx_told.proofs.order.conns_rise.Given as goal

abbrev pub invariant-loop-conn : goal.invariant-loop-conn
invariant-loop-conn l = Rises ConnBefore l.left → Rises ConnBefore l.fn.conns

abbrev pub decreases-loop-conn : goal.decreases-loop-conn
decreases-loop-conn l = length l.left
