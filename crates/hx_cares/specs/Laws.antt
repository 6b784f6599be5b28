-- The laws, as functions whose calls do nothing promise them.
use Rattle.std.specs.Prelude.{◌≡◌, ℕ, ◌<◌, true, List, [], ◌∷◌, ◌++◌, Some, slice_get}
use Rattle.hx_base.specs.declared.numbers.Millis.{Millis}
use Rattle.hx_base.specs.declared.plan.Plan.{Plan}
use Rattle.hx_course.specs.Graves.{Grave}
use Rattle.hx_link.specs.Nets.{NetState}
use Rattle.hx_pool.specs.History.{marks_of}
use Rattle.hx_pool.specs.SeatView.{History}
use Rattle.hx_pool.specs.declared.entries.Entry.{Entry}
use Rattle.hx_record.specs.declared.served.Told.{Told}
use Rattle.hx_script_parts.specs.declared.script.ClientLine.{ClientLine}
use Rattle.hx_worker.specs.Workers.{WorkerNow}
use Rattle.hx_run.specs.Cares.{Care, drains_below}
use Rattle.hx_run.specs.Turns.{Makes}
use Rattle.hx_cares.specs.Asked.{gates_in, gates_asked, rounds_in, rounds_asked}
use Rattle.hx_cares.specs.Cared.{Cared}

-- of a replay the marks of each server are those of sessions and the answers of its caretaker
abbrev pub CaresHold : Type 0
CaresHold =
    (plans : List Plan) (moments : List Millis) (came : List ClientLine) (cares : List Care) (w : WorkerNow) (net : NetState)
    (records : List Told) (graves : List Grave) (turns : ℕ)
    → Makes plans moments came cares w net records graves turns
    → (i : ℕ) (h : History) → slice_get w.seats i ≡ Some h → Cared i h.about.rules.delay.0 cares (marks_of h.mine)

-- the SetGates and Rounds among such marks
abbrev pub MarksAreAsked : Type 0
MarksAreAsked =
    (server delay : ℕ) (cares : List Care) (es : List Entry) → Cared server delay cares es
    → (gates_in es ≡ gates_asked server cares) × (rounds_in es ≡ rounds_asked delay cares)

-- where each of n servers is drained at the end, the last SetGate of each drains, and those before it are asked for before
abbrev pub DrainsAreLast : Type 0
DrainsAreLast =
    (server n : ℕ) (cares : List Care) → server < n
    → gates_asked server (cares ++ drains_below n) ≡ gates_asked server cares ++ true ∷ []
