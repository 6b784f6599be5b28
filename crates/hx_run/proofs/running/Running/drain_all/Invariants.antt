use Rattle.std.proofs.Common.{◌≡◌, ◌-◌, ◌≤◌, [], length}
use Rattle.hx_config.specs.Limits.{all_servers}
use Rattle.hx_run.specs.Overs.{ClosedBelow}
use Rattle.hx_run.specs.Cares.{drains_below}
use Rattle.hx_run.specs.Courses.{CaresOn}
use Rattle.hx_run.specs.Runs.{GoesOn}
use Rattle.hx_run.proofs.running.Running.drain_all.Given as goal

abbrev pub invariant-loop-at : goal.invariant-loop-at
invariant-loop-at l =
    GoesOn l.fn.self l.self × (l.self.worker.sessions ≡ []) × ClosedBelow l.at l.self.worker.seats × CaresOn (drains_below l.at) l.fn.self l.self
    × (l.at ≤ length (all_servers l.fn.self.worker.config.backs))
    × (l.self.turns ≡ l.fn.self.turns)

abbrev pub decreases-loop-at : goal.decreases-loop-at
decreases-loop-at l = 33 - l.at
