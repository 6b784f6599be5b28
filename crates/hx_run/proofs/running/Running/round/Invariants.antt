use Rattle.std.proofs.Common.{◌-◌, ◌^◌, ◌<◌}
use Rattle.hx_run.specs.Courses.{KeepsAt}
use Rattle.hx_run.specs.Runs.{GoesOn}
use Rattle.hx_run.specs.Standings.{StoodUpTo}
use Rattle.hx_run.proofs.running.Running.round.Given as goal

abbrev pub invariant-loop-n : goal.invariant-loop-n
invariant-loop-n l =
    GoesOn l.fn.self l.self × KeepsAt l.fn.now l.fn.self l.self × (l.fn.self.turns < l.fn.self.most → l.self.turns < l.self.most)
    × StoodUpTo l.fn.now l.fn.self l.self l.after.0

abbrev pub decreases-loop-n : goal.decreases-loop-n
decreases-loop-n l = 2 ^ 32 - l.after.0
