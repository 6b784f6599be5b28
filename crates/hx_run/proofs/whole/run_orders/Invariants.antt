use Rattle.std.proofs.Common.{◌≡◌, length}
use Rattle.hx_run.specs.Courses.{ObeysAll}
use Rattle.hx_run.specs.Dues.{AreDue}
use Rattle.hx_run.specs.Runs.{GoesOn}
use Rattle.hx_run.proofs.whole.run_orders.Given as goal

abbrev pub invariant-loop-what : goal.invariant-loop-what
invariant-loop-what l =
    GoesOn l.fn.running l.running × AreDue l.fn.running.worker.config l.due
    × ObeysAll l.fn.now l.fn.running l.fn.due.orders.items l.running l.due.orders.items
    × (l.due.clients.items ≡ l.fn.due.clients.items) × (l.running.turns ≡ l.fn.running.turns)

abbrev pub decreases-loop-what : goal.decreases-loop-what
decreases-loop-what l = length l.due.orders.items
