-- Which server a step chose: what a worker learns of it.
use Rattle.std.specs.Prelude.{◌≡◌, ◌<◌, List, length, Option, IfSome, IsSome}
use Rattle.hx_config.specs.Meaning.{Meaning}
use Rattle.hx_pool.specs.declared.entries.Note.{Note}
use Rattle.hx_pool.specs.SeatView.{History}
use Rattle.hx_connecting.specs.Sessions.{SessionNow, Around, is_first}
use Rattle.hx_connecting.specs.Touches.{Touch, Had, Adds}
use Rattle.hx_session.specs.declared.step.Step.{Step}
use Rattle.hx_session.specs.Steps.{StepChooses, doing}

-- the touched connection is one of a seat's, and the session had it only where it had one
abbrev pub IsOfSeat : SessionNow → List History → Option Touch → Type 0
IsOfSeat s seats x = IfSome x (λ y. (y.server.0 < length seats) × (y.came ≡ Had → IsSome s.conn))

-- what a step chose, told of the entries of the call and the connection that it touched, whichever way these are had
abbrev pub StepPicks : Meaning → SessionNow → SessionNow → Around → Around → Step → Type 0
StepPicks config s s' before after r =
    (x : Option Touch) (added : List (List Note))
    → Adds s.worker s.number (is_first s) x before.seats after.seats added → IsOfSeat s before.seats x
    → StepChooses config (doing s s' before after added r) x
