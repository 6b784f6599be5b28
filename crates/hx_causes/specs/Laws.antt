-- The law of causes, as a function whose call does nothing promises it.
use Rattle.std.specs.Prelude.{◌≡◌, ℕ, List, length}
use Rattle.hx_base.specs.declared.numbers.Millis.{Millis}
use Rattle.hx_base.specs.declared.plan.Plan.{Plan}
use Rattle.hx_config.specs.Meaning.{Meaning}
use Rattle.hx_course.specs.Graves.{Grave}
use Rattle.hx_link.specs.Nets.{NetState}
use Rattle.hx_record.specs.declared.served.Told.{Told}
use Rattle.hx_script_parts.specs.declared.script.ClientLine.{ClientLine}
use Rattle.hx_worker.specs.Workers.{WorkerNow}
use Rattle.hx_run.specs.Cares.{Care}
use Rattle.hx_run.specs.Turns.{Makes}
use Rattle.hx_causes.specs.Causes.{HasCauses, scope}

-- what the calls of a replay told has its causes, over its worker's sessions and the links that were buried
abbrev pub CausesHold : Type 0
CausesHold =
    (config : Meaning) (plans : List Plan) (moments : List Millis) (came : List ClientLine) (cares : List Care) (w : WorkerNow) (net : NetState)
    (records : List Told) (graves : List Grave) (turns : ℕ)
    → Makes plans moments came cares w net records graves turns → w.config ≡ config
    → HasCauses (scope config moments came) w.sessions net graves records
