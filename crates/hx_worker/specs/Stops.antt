-- What a caller learns of the stop of a worker's next session.
use Rattle.std.specs.Prelude.{◌≡◌, ℕ, List, [], ◌∷◌, Option, Some, None, true}
use Rattle.hx_link.specs.Told.{LinkState}
use Rattle.hx_link.specs.Nets.{NetState}
use Rattle.hx_pool.specs.SeatView.{History}
use Rattle.hx_connecting.specs.Journals.{JournalsStay}
use Rattle.hx_connecting.specs.Links.{GainsAll}
use Rattle.hx_connecting.specs.Sessions.{SessionNow, Around, around_with}
use Rattle.hx_connecting.specs.Touches.{Touch, most_marks}
use Rattle.hx_session.specs.Doings.{Doing}
use Rattle.hx_session.specs.Kept.{IsStopped}
use Rattle.hx_session.specs.Linking.{StopLinks}
use Rattle.hx_session.specs.Marking.{AddsMarks}
use Rattle.hx_session.specs.Stopping.{StopTouches, stopping}
use Rattle.hx_session.specs.Telling.{StopTold, stopped}
use Rattle.hx_worker.specs.declared.answers.Stopped.{Stopped}
use Rattle.hx_worker.specs.Steps.{HasFewMarks, BuriesClient, buried_with}
use Rattle.hx_worker.specs.Workers.{WorkerNow, Each, StaysWorker}

-- what a session's stop is: its seats hold nothing for it, which entries it made, server by server, which connection it
-- closed and how the link of that went, whatever the turns are, and what it told
pub record SessionStop (s : SessionNow) (client : LinkState) (seats seats' : List History) (net net' : NetState)
    (x : Stopped) : Type 0 where
  pub stops : IsStopped s client seats seats' net net' x.left
  pub adds : AddsMarks s seats seats'
  pub few : Each HasFewMarks adds.added
  pub links : (turns : List ℕ)
      → StopLinks s client (around_with seats turns net) (around_with seats' turns net') x.served x.left
  pub tells : StopTold s client x.left x.served

-- the link of the connection that a stop closed, as it was buried
abbrev pub stop_gone_of : (d : Doing) (x : Option Touch) → StopTouches d x → Option LinkState
stop_gone_of d None t = None
stop_gone_of d (Some x) t = t.goes.gone

-- the links that a stop leaves to be buried: that of the session's connection, if it had one, and the client's
abbrev pub buried_at_stop : (s : SessionNow) (client : LinkState) (before after : Around) (x : Stopped)
    → StopLinks s client before after x.served x.left → List LinkState
buried_at_stop s client before after x k =
    buried_with
    (stop_gone_of (stopping s (stopped s client x.served) before after k.added x.served x.left) k.touch k.touched)
    true client

-- the session of the least number is stopped, its client's link is buried, and every other session is as it was
pub record StopsOne (w w' : WorkerNow) (net net' : NetState) (x : Stopped) : Type 0 where
  pub stays : StaysWorker w w'
  pub turns : w'.turns ≡ w.turns
  pub session : SessionNow
  pub others : List SessionNow
  pub least : w.sessions ≡ session ∷ others
  -- its client's link as it comes back, and the net as the session left it
  pub client : LinkState
  pub mid : NetState
  pub stop : SessionStop session client w.seats w'.seats net mid x
  pub sessions : w'.sessions ≡ others
  pub buries : BuriesClient true client mid net'
  -- in the whole call just these links were buried
  pub buried :
      GainsAll (buried_at_stop session client (around_with w.seats w.turns net) (around_with w'.seats w.turns mid) x
      (stop.links w.turns)) net.buried net'.buried
  pub journals : JournalsStay most_marks w.journals w'.journals

-- nothing is done exactly where no session is there
abbrev pub StopsNext : WorkerNow → WorkerNow → NetState → NetState → Option Stopped → Type 0
StopsNext w w' net net' None = (w.sessions ≡ []) × (w' ≡ w) × (net' ≡ net)
StopsNext w w' net net' (Some x) = StopsOne w w' net net' x

-- the session of the least number is taken out
abbrev pub TakesLeast : {A B : Type 0} → List (A × B) → List (A × B) → Option B → Type 0
TakesLeast [] items' taken = (items' ≡ []) × (taken ≡ None)
TakesLeast (x ∷ items) items' taken = (items' ≡ items) × (taken ≡ Some x.1)
