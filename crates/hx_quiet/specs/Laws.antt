-- The law of sessions that are stopped, as a function whose call does nothing promises it.
use Rattle.std.specs.Prelude.{ℕ, List}
use Rattle.hx_base.specs.declared.numbers.Millis.{Millis}
use Rattle.hx_base.specs.declared.plan.Plan.{Plan}
use Rattle.hx_course.specs.Graves.{Grave}
use Rattle.hx_link.specs.Nets.{NetState}
use Rattle.hx_record.specs.declared.served.Told.{Told}
use Rattle.hx_script_parts.specs.declared.script.ClientLine.{ClientLine}
use Rattle.hx_worker.specs.Workers.{WorkerNow}
use Rattle.hx_run.specs.Cares.{Care}
use Rattle.hx_run.specs.Turns.{Makes}
use Rattle.hx_quiet.specs.Stopped.{StoodStill}

-- each session that the calls of a replay stopped stood still
abbrev pub StoppedStoodStill : Type 0
StoppedStoodStill =
    (plans : List Plan) (moments : List Millis) (came : List ClientLine) (cares : List Care) (w : WorkerNow) (net : NetState)
    (records : List Told) (graves : List Grave) (turns : ℕ)
    → Makes plans moments came cares w net records graves turns → StoodStill moments graves records
