use Rattle.std.proofs.Common.{◌≡◌, length}
use Rattle.hx_run.specs.Courses.{ComesAll}
use Rattle.hx_run.specs.Dues.{AreDue}
use Rattle.hx_run.specs.Runs.{GoesOn}
use Rattle.hx_run.proofs.whole.run_clients.Given as goal

abbrev pub invariant-loop-line : goal.invariant-loop-line
invariant-loop-line l =
    GoesOn l.fn.running l.running × AreDue l.fn.running.worker.config l.due
    × (l.due.orders.items ≡ l.fn.due.orders.items) × ComesAll l.fn.running l.fn.due.clients.items l.running l.due.clients.items × (l.running.turns ≡ l.fn.running.turns)

abbrev pub decreases-loop-line : goal.decreases-loop-line
decreases-loop-line l = length l.due.clients.items
