-- What a step tells: the record of a request that is over, the session's end, and to its client's link that nothing more is
-- written behind a closing answer.
use Rattle.std.specs.Prelude.{◌≡◌, ◌⊎◌, ℕ, ◌+◌, ◌≤◌, Bool, true, false, [], Option, Some, None, IfSome, ⊤}
use Rattle.hx_base.specs.declared.what.What.{What}
use Rattle.hx_conn.specs.WhatTold.{what_of_link}
use Rattle.hx_link.specs.Told.{LinkState}
use Rattle.hx_record.specs.Truth.{RecountsBytes, LeftBeforeAll}
use Rattle.hx_record.specs.declared.served.CutCause.TheVariants as cut
use Rattle.hx_record.specs.declared.served.Kind.{Kind}
use Rattle.hx_record.specs.declared.served.Kind.TheVariants as kind
use Rattle.hx_record.specs.declared.served.Left.{Left as Leave}
use Rattle.hx_record.specs.declared.served.LeftCause.{LeftCause}
use Rattle.hx_record.specs.declared.served.LeftCause.TheVariants as cause
use Rattle.hx_record.specs.declared.served.Served.{Served}
use Rattle.hx_connecting.specs.Sessions.{SessionNow, Holding, conn_link}
use Rattle.hx_connecting.specs.Ways.{HasNoExchange}
use Rattle.hx_session.specs.declared.moves.Move.{Move}
use Rattle.hx_session.specs.declared.moves.Move.TheVariants.{Idle, Bytes, Waits, Ended, Failed}
use Rattle.hx_session.specs.declared.stage.Came.{Came}
use Rattle.hx_session.specs.declared.stage.Came.TheVariants.{On, Moved, Ends}
use Rattle.hx_session.specs.Desks.{DeskNow}
use Rattle.hx_session.specs.Exchanged.{ExchangeNow}
use Rattle.hx_session.specs.Over.{IsTold, IsToldOf, RangesRise, carried_of, closing_of}
use Rattle.hx_session.specs.Records.{IsOfExchange, IsOfMethod, NoRecord, EndsSession, KindStands, Leaves, LeftStands, WhereTold, ends_after, leaves_for, no_carriage}
use Rattle.hx_session.specs.Seen.{GivesRecord, conn_seen}
use Rattle.hx_session.specs.Stages.{StageNow, ChoosingNow, Reading, Choosing, Exchanging, Answering, Left, stage_now}
use Rattle.hx_session.specs.Stopping.{ServesAtStop, StopsKind}

-- a link carried what it carried, and told its end where it told it
pub record CarriesSame (a b : LinkState) : Type 0 where
  pub taken : b.taken ≡ a.taken
  pub sent : b.sent ≡ a.sent
  pub ended : b.told_end ≡ a.told_end

-- the same exchange on the same connection, of which no byte was moved
pub record IsSameExchange (e f : ExchangeNow) : Type 0 where
  pub server : f.busy.server ≡ e.busy.server
  pub id : f.busy.id ≡ e.busy.id
  pub uses : f.busy.uses ≡ e.busy.uses
  pub sent_from : f.busy.exchange.sent_from ≡ e.busy.exchange.sent_from
  pub taken_from : f.busy.exchange.taken_from ≡ e.busy.exchange.taken_from
  pub method : f.busy.exchange.method ≡ e.busy.exchange.method
  pub link : CarriesSame e.busy.link f.busy.link

-- the stage of a step that did nothing yet but choose a server
abbrev pub IsSameStage : StageNow → StageNow → Type 0
IsSameStage (Reading held) t = t ≡ Reading held
IsSameStage (Choosing c) t = (k : ChoosingNow) × (t ≡ Choosing k)
IsSameStage (Exchanging e) t = (f : ExchangeNow) × (t ≡ Exchanging f) × IsSameExchange e f
IsSameStage (Answering a) t = t ≡ Answering a
IsSameStage Left t = t ≡ Left

-- no record is given: the next one has the same number and begins where it did, and the client's link isn't finished
pub record TellsNone (d d' : DeskNow) : Type 0 where
  pub number : d'.number ≡ d.number
  pub ask_from : d'.ask_from ≡ d.ask_from
  pub gave_from : d'.gave_from ≡ d.gave_from
  pub finished : d'.client.finished ≡ d.client.finished

-- a step that did nothing yet tells nothing
pub record IsStillTold (d : DeskNow) (s : StageNow) (d' : DeskNow) (s' : StageNow) : Type 0 where
  pub none : TellsNone d d'
  pub who : (d'.worker ≡ d.worker) × (d'.session ≡ d.session)
  pub client : CarriesSame d.client d'.client
  pub stage : IsSameStage s s'

-- what one call of a link in an exchange leaves: nothing was moved, or no record is given
abbrev pub MoveTells : Move → DeskNow → ExchangeNow → DeskNow → ExchangeNow → Type 0
MoveTells Idle d e d' e' = IsStillTold d (Exchanging e) d' (Exchanging e')
MoveTells Waits d e d' e' = IsStillTold d (Exchanging e) d' (Exchanging e')
MoveTells Failed d e d' e' = IsStillTold d (Exchanging e) d' (Exchanging e')
MoveTells Bytes d e d' e' = TellsNone d d'
MoveTells Ended d e d' e' = TellsNone d d'

-- a record of the request that was read or carried: it has its number, it begins where the record before ended, its ranges end no
-- earlier than they begin, and the next one begins where it ends; with it no byte is moved on the client's link
pub record TellsOne (d d' : DeskNow) (r : Served) : Type 0 where
  pub worker : r.worker ≡ d.worker
  pub session : r.session ≡ d.session
  pub number : r.number ≡ d.number
  pub ask : r.ask.from ≡ d.ask_from
  pub gave : r.gave.from ≡ d.gave_from
  pub ask_rises : r.ask.from ≤ r.ask.to
  pub gave_rises : r.gave.from ≤ r.gave.to
  pub next : d'.number ≡ d.number + 1
  pub asked : d'.ask_from ≡ r.ask.to
  pub given : d'.gave_from ≡ r.gave.to
  pub client : CarriesSame d.client d'.client

-- an own answer's record is true of what the client's link carried
abbrev pub IsToldOwn : LinkState → LeftCause → Served → Type 0
IsToldOwn client why r = WhereTold (what_of_link client).told (λ x. RecountsBytes r.kind r x no_carriage why)

-- at which stage a record of each kind is given, and that it is true there, a passed one of a request of its exchange's method
abbrev pub IsOfStage : StageNow → DeskNow → LeftCause → Served → Kind → Type 0
IsOfStage (Exchanging e) d why r (kind.Passed c) =
    IsOfExchange e.busy c × IsTold d.client e.busy.link why r × IsToldOf d.client e.busy.link e.busy.exchange.method r c
IsOfStage (Exchanging e) d why r (kind.Cut c w) = IsOfExchange e.busy c × IsTold d.client e.busy.link why r
IsOfStage (Answering a) d why r (kind.Own status) = (status ≡ a.status) × IsToldOwn d.client why r
IsOfStage s d why r k = ⊥

-- the session leaves for that cause with a record that ends it
abbrev pub LeavesWith : Option LeftCause → LeftCause → Type 0
LeavesWith None why = ⊥
LeavesWith (Some w) why =
    (why ≡ w) ⊎ ((w ≡ cause.Own) × ((why ≡ cause.Fault) ⊎ (why ≡ cause.Idle) ⊎ (why ≡ cause.Stop)))

-- the session leaves without a record for one of these causes
abbrev pub LeavesPlainly : LeftCause → Type 0
LeavesPlainly why = (why ≡ cause.End) ⊎ (why ≡ cause.Fault) ⊎ (why ≡ cause.Idle)

-- with an own answer's record it leaves for Own, where all of it was given, or for a cause that lets it be given in part
abbrev pub LeavesOwn : DeskNow → LeftCause → Type 0
LeavesOwn d why = ((why ≡ cause.Own) × (d.to.bytes ≡ [])) ⊎ LeftBeforeAll why

-- whether the client's link is finished where the session leaves for that cause: behind a closing answer, else as before
abbrev pub finished_for : LeftCause → Bool → Bool
finished_for cause.Closing before = true
finished_for _ before = before

abbrev pub finished_by : Option Leave → Bool → Bool
finished_by None before = before
finished_by (Some l) before = finished_for l.cause before

-- a part after which the session goes on, at a stage without an exchange where a record is given
abbrev pub TellsMoved : StageNow → DeskNow → DeskNow → StageNow → Option Served → Type 0
TellsMoved s d d' t None = TellsNone d d'
TellsMoved s d d' t (Some r) =
    TellsOne d d' r × IsOfStage s d cause.End r r.kind × (ends_after r.kind ≡ None) × (d'.client.finished ≡ d.client.finished)
    × HasNoExchange (conn_seen t)

-- where nothing of a request is under way
abbrev pub HasNoRequest : StageNow → Type 0
HasNoRequest (Reading held) = ⊤
HasNoRequest (Choosing c) = ⊤
HasNoRequest s = ⊥

-- a part after which it leaves, without a record only where nothing of a request is under way
abbrev pub TellsEnd : StageNow → DeskNow → DeskNow → Option Served → LeftCause → Type 0
TellsEnd s d d' None why = TellsNone d d' × LeavesPlainly why × HasNoRequest s
TellsEnd s d d' (Some r) why =
    TellsOne d d' r × IsOfStage s d why r r.kind × LeavesWith (ends_after r.kind) why
    × (d'.client.finished ≡ finished_for why d.client.finished) × (why ≡ cause.Stop → ⊥)

-- what a part of a step told
abbrev pub CameTells : {X : Type 0} → DeskNow → StageNow → DeskNow → Came X → Type 0
CameTells d s d' (On stage w) = IsStillTold d s d' (stage_now stage)
CameTells d s d' (Moved stage w served) = TellsMoved s d d' (stage_now stage) served
CameTells d s d' (Ends e) = TellsEnd s d d' e.served e.cause

-- what a step told
abbrev pub DoneTells : DeskNow → StageNow → DeskNow → StageNow → Option Served → Option Leave → Type 0
DoneTells d s d' s' served None = TellsMoved s d d' s' served
DoneTells d s d' s' served (Some l) = TellsEnd s d d' served l.cause

-- what a stop makes of each stage: of an exchange a cut one, which is closing where its final head went out so
abbrev pub StopsStage : StageNow → Kind → Type 0
StopsStage (Exchanging e) (kind.Cut c w) = (w ≡ cut.Stop) × (c.closing ≡ closing_of e.answer)
StopsStage (Answering a) (kind.Own status) = ⊤
StopsStage s k = ⊥

-- what a stop told
abbrev pub StopTells : StageNow → DeskNow → DeskNow → Option Served → Type 0
StopTells s d d' None = TellsNone d d' × HasNoRequest s
StopTells s d d' (Some r) =
    TellsOne d d' r × IsOfStage s d cause.Stop r r.kind × StopsStage s r.kind × (d'.client.finished ≡ d.client.finished)

-- the record of an exchange that passed is given, and the next one begins behind it
pub record GivesPassed (d d' : DeskNow) (e : ExchangeNow) (r : Served) : Type 0 where
  pub took_to : ℕ
  pub counted : took_to ≡ e.busy.exchange.taken_from + e.answered
  pub gives : GivesRecord d d' (kind.Passed (carried_of e took_to)) r
  pub rises : RangesRise d e took_to gives.to
  pub method : IsToldOf d.client e.busy.link e.busy.exchange.method r (carried_of e took_to)
  pub client : d'.client ≡ d.client

-- what the link of the session's connection tells
abbrev pub conn_told : Option Holding → Option What
conn_told None = None
conn_told (Some c) = Some (what_of_link (conn_link c))

-- a record of each kind is true of the client's link as the call leaves it, and of what the connection's tells
abbrev pub KindTold : SessionNow → SessionNow → Option What → LeftCause → Served → Kind → Type 0
KindTold s s' conn why r (kind.Passed c) = KindStands s s' conn why r (kind.Passed c)
KindTold s s' conn why r (kind.Cut c w) = KindStands s s' conn why r (kind.Cut c w)
KindTold s s' conn why r (kind.Own status) = KindStands s s' conn why r (kind.Own status)

-- an own answer whose record is given was decided before the call
abbrev pub WasDecided : SessionNow → Kind → Type 0
WasDecided s (kind.Passed c) = ⊤
WasDecided s (kind.Cut c why) = ⊤
WasDecided s (kind.Own status) = s.own ≡ Some status

pub record RecordTold (s s' : SessionNow) (conn : Option What) (left : Option Leave) (r : Served) : Type 0 where
  pub worker : r.worker ≡ s.worker
  pub session : r.session ≡ s.number
  pub number : r.number ≡ s.served + 1
  pub ask : r.ask.from ≡ s.asked
  pub gave : r.gave.from ≡ s.gave
  pub ask_rises : r.ask.from ≤ r.ask.to
  pub gave_rises : r.gave.from ≤ r.gave.to
  pub kind : KindTold s s' conn (leaves_for left) r r.kind
  pub own : WasDecided s r.kind
  pub method : IsOfMethod s s'.client conn r r.kind
  -- with it no exchange is under way any more
  pub over : HasNoExchange s'.conn
  pub served : s'.served ≡ s.served + 1
  pub asked : s'.asked ≡ r.ask.to
  pub given : s'.gave ≡ r.gave.to
  pub ends : EndsSession (ends_after r.kind) left

abbrev pub RecordsTold : SessionNow → SessionNow → Option What → Option Leave → Option Served → Type 0
RecordsTold s s' conn left None = NoRecord s s'
RecordsTold s s' conn left (Some r) = RecordTold s s' conn left r

-- a session leaves without a record at its client's end or failure, or at a deadline, alone
abbrev pub LeavesWithout : Option Served → Option Leave → Type 0
LeavesWithout None (Some l) = LeavesPlainly l.cause
LeavesWithout served left = ⊤

-- the record and the end that a step gives, and that it finishes the client's link behind a closing answer and nowhere else
pub record StepTold (s s' : SessionNow) (left : Option Leave) (served : Option Served) : Type 0 where
  pub records : RecordsTold s s' (conn_told s.conn) left served
  pub leaves : Leaves s' left
  pub without : LeavesWithout served left
  pub finished : s'.client.finished ≡ finished_by left s.client.finished

-- a session that was stopped: where a record was given, it is behind that
abbrev pub stopped : SessionNow → LinkState → Option Served → SessionNow
stopped s client None = record s { client = client; conn = None; chosen = None; closing = false; own = None; over = true }
stopped s client (Some r) = record s {
  client = client;
  conn = None;
  chosen = None;
  served = s.served + 1;
  asked = r.ask.to;
  gave = r.gave.to;
  closing = false;
  own = None;
  over = true;
}

-- the record and the end that a stop gives; it doesn't finish the client's link
pub record StopTold (s : SessionNow) (client : LinkState) (left : Leave) (served : Option Served) : Type 0 where
  pub records : RecordsTold s (stopped s client served) (conn_told s.conn) (Some left) served
  pub leaves : LeftStands (stopped s client served) left
  pub serves : ServesAtStop s s.conn s.own served
  pub kind : IfSome served (λ r. StopsKind s r.kind)
  pub finished : client.finished ≡ s.client.finished
