use Rattle.std.proofs.Common.{◌-◌, IsSome}
use Rattle.hx_run.specs.Courses.{KeepsAt}
use Rattle.hx_run.specs.Runs.{GoesOn}
use Rattle.hx_run.specs.Standings.{LeavesOthers}
use Rattle.hx_worker.specs.Workers.{session_of}
use Rattle.hx_run.proofs.running.Running.go_on.Given as goal

abbrev pub invariant-loop : goal.invariant-loop
invariant-loop l = GoesOn l.fn.self l.self × IsSome (session_of l.self.worker.sessions l.fn.n.0) × KeepsAt l.fn.now l.fn.self l.self
    × LeavesOthers l.fn.n l.fn.self l.self

abbrev pub decreases-loop : goal.decreases-loop
decreases-loop l = l.self.most - l.self.turns
