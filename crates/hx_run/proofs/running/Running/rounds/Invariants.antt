use Rattle.std.proofs.Common.{◌-◌, ◌<◌}
use Rattle.hx_run.specs.Courses.{KeepsAt}
use Rattle.hx_run.specs.Runs.{GoesOn}
use Rattle.hx_run.proofs.running.Running.rounds.Given as goal

abbrev pub invariant-loop : goal.invariant-loop
invariant-loop l =
    GoesOn l.fn.self l.self × KeepsAt l.fn.now l.fn.self l.self × (l.fn.self.turns < l.fn.self.most → l.self.turns < l.self.most)

abbrev pub decreases-loop : goal.decreases-loop
decreases-loop l = l.self.most - l.self.turns
