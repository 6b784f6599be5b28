use Rattle.std.proofs.Common.{◌<◌}
use Rattle.std.specs.Prelude.{drop, take}
use Rattle.hx_run.specs.Courses.{ComesIn}
use Rattle.hx_run.specs.Dues.{AreDue}
use Rattle.hx_run.specs.Runs.{GoesOn}
use Rattle.hx_run.specs.Standings.{AllStoodLast}
use Rattle.hx_run.proofs.whole.run_moments.Given as goal

abbrev pub invariant-loop-now : goal.invariant-loop-now
invariant-loop-now l =
    GoesOn l.fn.running l.running × AreDue l.fn.running.worker.config l.due
    × ComesIn l.fn.moments (take l.now-index l.fn.moments) (drop l.now-index l.fn.moments) l.fn.running l.fn.due l.running l.due × (l.running.turns < l.running.most)
    × AllStoodLast (take l.now-index l.fn.moments) l.running.worker
