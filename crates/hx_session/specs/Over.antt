-- An answer that is over, and what its record tells.
use Rattle.std.specs.Prelude.{◌≡◌, ◌⊎◌, ℕ, ◌+◌, ◌≤◌, Bool, true, false, List, [], IfSome}
use Rattle.hx_frame.specs.declared.progress.MeterState.TheVariants.{Done}
use Rattle.hx_link.specs.Told.{LinkState}
use Rattle.hx_record.specs.Carriage.{Carriage}
use Rattle.hx_message.specs.declared.MethodKind.{MethodKind}
use Rattle.hx_record.specs.Truth.{RecountsBytes, IsTruePassed}
use Rattle.hx_record.specs.declared.served.Served.{Served}
use Rattle.hx_record.specs.declared.served.Left.{Left}
use Rattle.hx_record.specs.declared.served.LeftCause.{LeftCause}
use Rattle.hx_session.specs.declared.exchange.BodyWay.{BodyWay}
use Rattle.hx_base.specs.declared.numbers.Span.{Span}
use Rattle.hx_record.specs.declared.served.Carried.{Carried}
use Rattle.hx_record.specs.declared.served.Kind.{Kind}
use Rattle.hx_session.specs.declared.exchange.AnswerWay.{AnswerWay}
use Rattle.hx_session.specs.declared.exchange.AnswerWay.TheVariants.{Heads, Body}
use Rattle.hx_session.specs.Since.{HasSince}
use Rattle.hx_session.specs.Desks.{DeskNow, IsDesk}
use Rattle.hx_session.specs.Exchanged.{ExchangeNow}

-- the whole answer went on and was given, and the request had been wholly sent before
pub record IsOver (d : DeskNow) (e : ExchangeNow) (b : BodyWay) : Type 0 where
  pub body : e.answer ≡ Body b
  pub ends : (b.state ≡ Done) ⊎ ((b.to_end ≡ true) × ((e.ended ≡ true) × (d.down.bytes ≡ [])))
  pub given : d.to.bytes ≡ []
  pub timely : b.early ≡ false

-- of what two links carried, where they tell both
abbrev pub carried_by : List ℕ → List ℕ → Bool → Carriage
carried_by taken sent ended = record { taken = taken; sent = sent; ended = ended }

abbrev pub WhereCarried : LinkState → LinkState → (Carriage → Carriage → Type 0) → Type 0
WhereCarried c s P =
    IfSome c.taken (λ ct. IfSome c.sent (λ cs. IfSome s.taken (λ st. IfSome s.sent (λ ss.
    P (carried_by ct cs c.told_end) (carried_by st ss s.told_end)))))

-- the record is true of what the client's link and the connection's link carried
abbrev pub IsTold : LinkState → LinkState → LeftCause → Served → Type 0
IsTold client conn why s = WhereCarried client conn (λ c t. RecountsBytes s.kind s c t why)

-- a passed record is true of them, of a request of that method
abbrev pub IsToldOf : LinkState → LinkState → MethodKind → Served → Carried → Type 0
IsToldOf client conn m s c = WhereCarried client conn (λ x y. (p : IsTruePassed s c x y) × (p.method ≡ m))

abbrev pub span : ℕ → ℕ → Span
span from to = record { from = from; to = to }

-- a final head was spelled with `Connection: close`
abbrev pub closing_of : AnswerWay → Bool
closing_of Heads = false
closing_of (Body b) = b.closing

-- its head was there before the request was wholly sent
abbrev pub early_of : AnswerWay → Bool
early_of Heads = false
early_of (Body b) = b.early

-- what an exchange carried, up to that byte of the connection
abbrev pub carried_of : ExchangeNow → ℕ → Carried
carried_of e took_to = record {
  server = e.busy.server;
  id = e.busy.id;
  nth = e.busy.uses + 1;
  sent = span e.busy.exchange.sent_from e.busy.link.sent_count;
  took = span e.busy.exchange.taken_from took_to;
  closing = closing_of e.answer;
}

-- the record of a request up to that byte of the client
abbrev pub served_of : DeskNow → Kind → ℕ → Served
served_of d kind ask_to = record {
  worker = d.worker;
  session = d.session;
  number = d.number;
  ask = span d.ask_from ask_to;
  gave = span d.gave_from d.given;
  kind = kind;
}

-- the ranges of an exchange's record up to those bytes of the connection and of the client end no earlier than they begin
pub record RangesRise (d : DeskNow) (e : ExchangeNow) (took_to ask_to : ℕ) : Type 0 where
  pub ask : d.ask_from ≤ ask_to
  pub gave : d.gave_from ≤ d.given
  pub sent : e.busy.exchange.sent_from ≤ e.busy.link.sent_count
  pub took : e.busy.exchange.taken_from ≤ took_to

-- the next record begins behind it
abbrev pub after_record : DeskNow → ℕ → DeskNow
after_record d ask_to = record d { number = d.number + 1; ask_from = ask_to; gave_from = d.given }

-- the end of a session
abbrev pub left_of : DeskNow → LeftCause → Left
left_of d why = record { worker = d.worker; session = d.session; ask = span d.ask_from d.taken; cause = why }

-- behind the record only what the pipe holds was taken of the client, and nothing was given
pub record BeginsAnew (d : DeskNow) : Type 0 where
  pub desk : IsDesk d
  pub taken : HasSince d.client.taken d.client.taken_count d.ask_from d.from.bytes
  pub given : HasSince d.client.sent d.client.sent_count d.gave_from []
