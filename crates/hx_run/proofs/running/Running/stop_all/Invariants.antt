use Rattle.std.proofs.Common.{◌≡◌, length}
use Rattle.hx_run.specs.Courses.{StopsOn}
use Rattle.hx_run.specs.Runs.{GoesOn}
use Rattle.hx_run.specs.Standings.{StaysStood}
use Rattle.hx_run.proofs.running.Running.stop_all.Given as goal

abbrev pub invariant-loop : goal.invariant-loop
invariant-loop l = GoesOn l.fn.self l.self × StopsOn l.fn.self l.self × StaysStood l.fn.self l.self × (l.self.turns ≡ l.fn.self.turns)

abbrev pub decreases-loop : goal.decreases-loop
decreases-loop l = length l.self.worker.sessions
