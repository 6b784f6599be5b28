-- How an exchange and a session end.
use Rattle.std.specs.Prelude.{◌≡◌, ℕ, true, ◌≤◌, List, [], Some, None, ⊤}
use Rattle.hx_base.specs.declared.numbers.SessionNo.{SessionNo}
use Rattle.hx_record.specs.declared.served.CutCause.{CutCause}
use Rattle.hx_record.specs.declared.served.Kind.TheVariants.{Cut}
use Rattle.hx_record.specs.declared.served.Served.{Served}
use Rattle.hx_record.specs.declared.served.LeftCause.{LeftCause}
use Rattle.hx_record.specs.declared.served.LeftCause.TheVariants as cause
use Rattle.hx_pool.specs.SeatView.{History}
use Rattle.hx_pool.specs.Opening.{HasConn}
use Rattle.hx_connecting.specs.Closing.{AtSeat, HasHeld}
use Rattle.hx_session.specs.declared.stage.Came.{Came}
use Rattle.hx_session.specs.declared.stage.Came.TheVariants.{On, Moved, Ends}
use Rattle.hx_link.specs.Pipes.{pipe}
use Rattle.hx_message.specs.OwnAnswer.{HasReason, IsOwnAnswer}
use Rattle.hx_session.specs.Since.{HasSince}
use Rattle.hx_session.specs.Desks.{DeskNow, emptied}
use Rattle.hx_session.specs.Exchanged.{ExchangeNow}
use Rattle.hx_session.specs.Over.{served_of, carried_of, after_record, early_of, IsTold, RangesRise}
use Rattle.hx_session.specs.Finishing.{IsAnswerGiven}
use Rattle.hx_session.specs.Stages.{StageNow, Reading, Choosing, Exchanging, Answering, Left}

-- the session has at its seat the connection of its stage
abbrev pub HasOwn : List History → SessionNo → StageNow → Type 0
HasOwn seats n (Reading held) = HasHeld seats n held
HasOwn seats n (Choosing c) = HasHeld seats n c.held
HasOwn seats n (Exchanging e) = AtSeat seats e.busy.server.0 (λ h. HasConn h n e.busy.id)
HasOwn seats n (Answering a) = HasHeld seats n a.held
HasOwn seats n Left = ⊤

-- nothing was given since the last record
abbrev pub GaveNothing : DeskNow → Type 0
GaveNothing d = HasSince d.client.sent d.client.sent_count d.gave_from []

-- there is an own answer of that status
abbrev pub HasOwnText : ℕ → Type 0
HasOwnText status = (reason : List ℕ) × HasReason status reason

-- the own answer of that status waits for the client, and nothing else waits
pub record AnswersOwn (old new : DeskNow) (status : ℕ) : Type 0 where
  pub text : List ℕ
  pub own : IsOwnAnswer status text
  pub desk : new ≡ record (emptied old) { to = pipe text old.to.capacity; waits_since = new.waits_since }

-- only an early answer that was given whole is cut off as early
pub record EndsEarly (d : DeskNow) (e : ExchangeNow) : Type 0 where
  pub whole : IsAnswerGiven d e
  pub early : early_of e.answer ≡ true

-- the record of an exchange that was cut off, and the next one's beginning
pub record CutsOff (old new : DeskNow) (e : ExchangeNow) (why : CutCause) (s : Served) : Type 0 where
  pub took_to : ℕ
  pub ask_to : ℕ
  pub within : ask_to ≤ old.taken
  pub rises : RangesRise old e took_to ask_to
  pub served : s ≡ served_of old (Cut (carried_of e took_to) why) ask_to
  pub told : (leaves : LeftCause) → IsTold old.client e.busy.link leaves s
  pub desk : new ≡ record (after_record old ask_to) { down = new.down }

-- the step is over, and the session leaves after such a record
abbrev pub EndsInCut : {X : Type 0} → DeskNow → DeskNow → ExchangeNow → CutCause → Came X → Type 0
EndsInCut old new e why (Ends x) =
    (x.cause ≡ cause.Cut) × (x.held ≡ None) × ((s : Served) × (mid : DeskNow) × (x.served ≡ Some s) × CutsOff old mid e why s × (new.client ≡ mid.client)
    × (new.ask_from ≡ mid.ask_from) × (new.gave_from ≡ mid.gave_from))
EndsInCut old new e why (On stage w) = ⊥
EndsInCut old new e why (Moved stage w served) = ⊥
