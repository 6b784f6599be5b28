-- What a step and a stop do at the seats and with links: the one connection that they touched and the way of its link, with dials and
-- burials of the net; and that the record which they give is true of that link as it stands after the call.
use Rattle.std.specs.Prelude.{List, Option, Some}
use Rattle.hx_link.specs.Told.{LinkState}
use Rattle.hx_pool.specs.declared.entries.Note.{Note}
use Rattle.hx_record.specs.declared.served.Left.{Left}
use Rattle.hx_record.specs.declared.served.Served.{Served}
use Rattle.hx_session.specs.declared.step.Step.{Step}
use Rattle.hx_connecting.specs.Sessions.{SessionNow, Around, is_first}
use Rattle.hx_connecting.specs.Touches.{Touch, Adds}
use Rattle.hx_session.specs.Doings.{IsSameNet}
use Rattle.hx_session.specs.Steps.{StepTouches, doing}
use Rattle.hx_session.specs.Stopping.{StopTouches, stopping, stopped_of}
use Rattle.hx_session.specs.Telling.{RecordsTold, stopped}
use Rattle.hx_session.specs.Touching.{ClosesForCauses, after_of}

-- of a step: the way of the touched connection, the cause of its closing, and the record by what its link tells after the call
pub record StepLinks (s s' : SessionNow) (before after : Around) (r : Step) : Type 0 where
  pub added : List (List Note)
  pub touches : StepTouches (doing s s' before after added r)
  pub closes : ClosesForCauses (doing s s' before after added r) touches.touch touches.touched
  pub records : RecordsTold s s' (after_of (doing s s' before after added r) touches.touch touches.touched) r.left r.served

-- of a stop: the session's connection is closed, if it has one, and its link is buried as it stood
pub record StopLinks (s : SessionNow) (client : LinkState) (before after : Around) (served : Option Served) (left : Left) : Type 0 where
  pub touch : Option Touch
  pub added : List (List Note)
  pub adds : Adds s.worker s.number (is_first s) touch before.seats after.seats added
  pub touched : StopTouches (stopping s (stopped s client served) before after added served left) touch
  pub net : IsSameNet before.net after.net
  pub records : RecordsTold s (stopped s client served)
      (stopped_of (stopping s (stopped s client served) before after added served left) touch touched) (Some left) served
