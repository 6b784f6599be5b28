-- What an exchange does next, and how one that passed ends.
use Rattle.std.specs.Prelude.{◌≡◌, ◌⊎◌, ℕ, ◌+◌, ◌≤◌, ◌&&◌, not, Bool, true, false, [], length, Option, Some, None, ⊤}
use Rattle.hx_base.specs.declared.numbers.ServerNo.{ServerNo}
use Rattle.hx_conn.specs.Conns.{RestedNow, BusyNow}
use Rattle.hx_conn.specs.Steps.{answer_ended}
use Rattle.hx_frame.specs.declared.progress.MeterState.TheVariants.{Going, Done, Bad}
use Rattle.hx_link.specs.Pipes.{PipeNow}
use Rattle.hx_session.specs.declared.answers.Do.{Do}
use Rattle.hx_session.specs.declared.answers.Do.TheVariants.{BadAsk, BadAnswer, PassAsk, ClientEnded, LookForHead, PassAnswer, Finish, ServerEnded, Nothing}
use Rattle.hx_session.specs.declared.exchange.AnswerWay.{AnswerWay}
use Rattle.hx_session.specs.declared.exchange.AnswerWay.TheVariants.{Heads, Body}
use Rattle.hx_session.specs.declared.exchange.BodyWay.{BodyWay}
use Rattle.hx_session.specs.Carried.{IsCarried}
use Rattle.hx_session.specs.Desks.{DeskNow}
use Rattle.hx_session.specs.Exchanged.{ExchangeNow}
use Rattle.hx_session.specs.Over.{IsOver, after_record}
use Rattle.hx_session.specs.Waiting.{AskIdle, AnswerIdle}

-- the whole answer went on and was given
pub record IsAnswerGiven (d : DeskNow) (e : ExchangeNow) : Type 0 where
  pub body : BodyWay
  pub is : e.answer ≡ Body body
  pub ends : (body.state ≡ Done) ⊎ ((body.to_end ≡ true) × ((e.ended ≡ true) × (d.down.bytes ≡ [])))
  pub given : d.to.bytes ≡ []

-- the body of an answer goes on, none of it is at hand, and its server ended
pub record IsCutShort (d : DeskNow) (e : ExchangeNow) : Type 0 where
  pub body : BodyWay
  pub is : e.answer ≡ Body body
  pub going : body.state ≡ Going
  pub not_so : body.to_end ≡ false
  pub none : d.down.bytes ≡ []
  pub ended : e.ended ≡ true

-- the request goes on, none of it is at hand, and its client ended
pub record IsAskCutShort (d : DeskNow) (e : ExchangeNow) : Type 0 where
  pub going : e.ask.state ≡ Going
  pub none : d.from.bytes ≡ []
  pub ended : d.ended ≡ true

-- the body of its answer is bad
abbrev pub HasBadAnswer : ExchangeNow → Type 0
HasBadAnswer e = (b : BodyWay) × (e.answer ≡ Body b) × (b.state ≡ Bad)

-- what is done for the request of an exchange
abbrev pub DoesAsk : DeskNow → ExchangeNow → Do → Type 0
DoesAsk d e BadAsk = e.ask.state ≡ Bad
DoesAsk d e BadAnswer = ⊥
DoesAsk d e PassAsk = e.ask.state ≡ Going
DoesAsk d e ClientEnded = IsAskCutShort d e
DoesAsk d e LookForHead = ⊥
DoesAsk d e PassAnswer = ⊥
DoesAsk d e Finish = ⊥
DoesAsk d e ServerEnded = ⊥
DoesAsk d e Nothing = AskIdle d e

-- and for its answer, whose body isn't bad
abbrev pub DoesAnswer : DeskNow → ExchangeNow → Do → Type 0
DoesAnswer d e BadAsk = ⊥
DoesAnswer d e BadAnswer = ⊥
DoesAnswer d e PassAsk = ⊥
DoesAnswer d e ClientEnded = ⊥
DoesAnswer d e LookForHead = e.answer ≡ Heads
DoesAnswer d e PassAnswer = ⊤
DoesAnswer d e Finish = IsAnswerGiven d e
DoesAnswer d e ServerEnded = IsCutShort d e
DoesAnswer d e Nothing = AnswerIdle d e

-- what an exchange may do
abbrev pub MayDo : DeskNow → ExchangeNow → Do → Type 0
MayDo d e BadAsk = e.ask.state ≡ Bad
MayDo d e BadAnswer = HasBadAnswer e
MayDo d e PassAsk = e.ask.state ≡ Going
MayDo d e ClientEnded = IsAskCutShort d e
MayDo d e LookForHead = (e.answer ≡ Heads) × AskIdle d e
MayDo d e PassAnswer = ⊤
MayDo d e Finish = IsAnswerGiven d e
MayDo d e ServerEnded = IsCutShort d e
MayDo d e Nothing = AskIdle d e × AnswerIdle d e

-- a head that was found has no room: nothing changed, and bytes wait for the client
pub record SpellsNone (d : DeskNow) (e : ExchangeNow) (d' : DeskNow) (e' : ExchangeNow) : Type 0 where
  pub desk : d' ≡ d
  pub exchange : e' ≡ e
  pub waits : 1 ≤ length d.to.bytes

-- where nothing of a body is at hand
abbrev pub DoesAtEnd : ExchangeNow → BodyWay → PipeNow → Do → Type 0
DoesAtEnd e b to BadAsk = ⊥
DoesAtEnd e b to BadAnswer = ⊥
DoesAtEnd e b to PassAsk = ⊥
DoesAtEnd e b to ClientEnded = ⊥
DoesAtEnd e b to LookForHead = ⊥
DoesAtEnd e b to PassAnswer = ⊥
DoesAtEnd e b to Finish = (b.to_end ≡ true) × (e.ended ≡ true) × (to.bytes ≡ [])
DoesAtEnd e b to ServerEnded = (b.to_end ≡ false) × (e.ended ≡ true)
DoesAtEnd e b to Nothing = (e.ended ≡ false) ⊎ (1 ≤ length to.bytes)

-- the whole answer was read on the connection, which persists after it where the answer says so and doesn't run to the end
abbrev pub EndsAnswer : AnswerWay → BusyNow → BusyNow → ℕ → Type 0
EndsAnswer a b b' n =
    (persistent : Bool) × (b' ≡ answer_ended b n persistent)
    × ((y : BodyWay) → a ≡ Body y → persistent ≡ (y.persists && not y.to_end))

-- what rests with the session is a connection to that server
abbrev pub RestsTo : ServerNo → Option RestedNow → Type 0
RestsTo server None = ⊤
RestsTo server (Some r) = r.server ≡ server

-- the next record begins behind what the pipe from the client holds
pub record PassesTo (d d' : DeskNow) : Type 0 where
  pub ask_to : ℕ
  pub ends : ask_to + length d.from.bytes ≡ d.taken
  pub desk : d' ≡ after_record d ask_to

-- the exchange was over, at the desk that had it
pub record WasOver (e : ExchangeNow) : Type 0 where
  pub desk : DeskNow
  pub body : BodyWay
  pub carried : IsCarried desk e
  pub over : IsOver desk e body
