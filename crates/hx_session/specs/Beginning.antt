-- How an exchange begins: the server that is chosen for its request, and the connection.
use Rattle.std.specs.Prelude.{◌≡◌, ℕ, false, List, [], Option, Some, None}
use Rattle.hx_base.specs.declared.numbers.ServerNo.{ServerNo}
use Rattle.hx_config.specs.declared.parts.Server.{Server}
use Rattle.hx_conn.specs.Conns.{BusyNow}
use Rattle.hx_conn.specs.Steps.{new_exchange}
use Rattle.hx_pool.specs.Opening.{HasConn}
use Rattle.hx_pool.specs.SeatView.{History}
use Rattle.hx_session_parts.specs.declared.asks.Asked.{Asked}
use Rattle.hx_connecting.specs.Around.{HasAround}
use Rattle.hx_connecting.specs.Choice.{Chooses}
use Rattle.hx_connecting.specs.Closing.{AtSeat}
use Rattle.hx_connecting.specs.Sessions as seen
use Rattle.hx_frame.specs.declared.meter.Meter.{Meter}
use Rattle.hx_frame.specs.declared.progress.MeterState.TheVariants.{Bad}
use Rattle.hx_frame.specs.Meters.{HasUsed, state_of}
use Rattle.hx_session.specs.declared.exchange.AnswerWay.TheVariants.{Heads}
use Rattle.hx_session.specs.Desks.{DeskNow}
use Rattle.hx_session.specs.Exchanged.{ExchangeNow}
use Rattle.hx_session.specs.Stages.{ChoosingNow, StageNow, Reading, Choosing, Exchanging, Answering, Left}

-- a server is chosen for a request, or it is the one that was chosen before
abbrev pub ChoosesServer : List Server → ℕ → ℕ → List History → List History → Option ServerNo → Option ServerNo → Type 0
ChoosesServer servers turn turn' olds news (Some v) server = (server ≡ Some v) × (news ≡ olds) × (turn' ≡ turn)
ChoosesServer servers turn turn' olds news None server = Chooses servers turn turn' olds news server

pub record ChoosesFor (servers : List Server) (turn turn' : ℕ) (olds news : List History) (c c' : ChoosingNow) : Type 0 where
  pub length : c'.length ≡ c.length
  pub kind : c'.kind ≡ c.kind
  pub held : c'.held ≡ c.held
  pub server : ChoosesServer servers turn turn' olds news c.server c'.server

-- the same of a session, which else is left as it is
abbrev pub ChoosesIn : List Server → ℕ → ℕ → List History → List History → StageNow → StageNow → Type 0
ChoosesIn servers turn turn' olds news (Choosing c) s' = (c' : ChoosingNow) × (s' ≡ Choosing c') × ChoosesFor servers turn turn' olds news c c'
ChoosesIn servers turn turn' olds news (Reading held) s' = (s' ≡ Reading held) × (news ≡ olds) × (turn' ≡ turn)
ChoosesIn servers turn turn' olds news (Exchanging e) s' = (s' ≡ Exchanging e) × (news ≡ olds) × (turn' ≡ turn)
ChoosesIn servers turn turn' olds news (Answering a) s' = (s' ≡ Answering a) × (news ≡ olds) × (turn' ≡ turn)
ChoosesIn servers turn turn' olds news Left s' = (s' ≡ Left) × (news ≡ olds) × (turn' ≡ turn)

-- an exchange of the request's method begins on the connection
abbrev pub BeginsOn : Asked → BusyNow → Type 0
BeginsOn a b = b.exchange ≡ new_exchange a.head.method b.link.sent_count b.link.taken_count

-- the session has the connection at its seat
abbrev pub ConnectedAt : DeskNow → BusyNow → List History → Type 0
ConnectedAt d b seats =
    HasAround d.worker d.session (Some (seen.Exchanging b)) seats × AtSeat seats b.server.0 (λ h. HasConn h d.session b.id)

-- an exchange that begins: the request's head was spelled, and nothing came back
pub record BeginsExchange (a : Asked) (busy : BusyNow) (meter : Meter) (e : ExchangeNow) : Type 0 where
  pub busy_is : e.busy ≡ busy
  pub ended : e.ended ≡ false
  pub answered : e.answered ≡ 0
  pub answer : e.answer ≡ Heads
  pub wants : e.ask.wants_close ≡ a.wants_close
  pub written : e.ask.written ≡ false
  pub state : e.ask.state ≡ state_of e.ask.meter
  pub used : HasUsed a.kind [] meter → HasUsed a.kind [] e.ask.meter
  pub good : (state_of meter ≡ Bad → ⊥) → e.ask.state ≡ Bad → ⊥
