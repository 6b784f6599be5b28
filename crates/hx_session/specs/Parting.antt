-- What a part of a step did at the worker's seats: it touched at most one connection, with which the step is over.
use Rattle.std.specs.Prelude.{◌≡◌, ◌⊎◌, ◌-◌, ◌==◌, Bool, List, Option, Some, None, IfSome, ⊤}
use Rattle.hx_conn.specs.Conns.{RestedNow, BusyNow, IsRested, IsBusy}
use Rattle.hx_link.specs.Nets.{NetState, NetDetaches}
use Rattle.hx_link.specs.Told.{LinkState}
use Rattle.hx_base.specs.declared.numbers.SessionNo.{SessionNo}
use Rattle.hx_pool.specs.SeatView.{History}
use Rattle.hx_base.specs.declared.numbers.ThreadNo.{ThreadNo}
use Rattle.hx_pool.specs.declared.entries.Note.{Note}
use Rattle.hx_record.specs.declared.served.Served.{Served}
use Rattle.hx_connecting.specs.Adding.{TouchesSeats}
use Rattle.hx_connecting.specs.Around.{resting}
use Rattle.hx_connecting.specs.Closing.{ClosesAny, ClosesAt}
use Rattle.hx_connecting.specs.Sessions.{Holding}
use Rattle.hx_connecting.specs.Touches.{Touch}
use Rattle.hx_connecting.specs.Ways.{GivesOwn, StaysOn, ToldStays, WayFor, SomeWay}
use Rattle.hx_session.specs.declared.stage.Came.{Came}
use Rattle.hx_session.specs.declared.stage.Came.TheVariants.{On, Moved, Ends}
use Rattle.hx_session.specs.Desks.{DeskNow}
use Rattle.hx_session.specs.Seen.{conn_seen}
use Rattle.hx_connecting.specs.Outcomes.{Outcome, Going, Deciding, Leaving}
use Rattle.hx_session.specs.Stages.{StageNow, Reading, Choosing, Exchanging, Answering, Left, stage_now}

-- the next request is the session's first
abbrev pub first_of : DeskNow → Bool
first_of d = (d.number - 1) == 0

-- how a session stands behind it: it goes on, with an own answer decided or not, or it has left
abbrev pub outcome_of : StageNow → Outcome
outcome_of (Reading held) = Going
outcome_of (Choosing c) = Going
outcome_of (Exchanging e) = Going
outcome_of (Answering a) = Deciding
outcome_of Left = Leaving

abbrev pub came_outcome : {X : Type 0} → Came X → Outcome
came_outcome (On stage w) = outcome_of (stage_now stage)
came_outcome (Moved stage w served) = outcome_of (stage_now stage)
came_outcome (Ends e) = Leaving

-- the connection that the session has behind a part
abbrev pub came_conn : {X : Type 0} → Came X → Option Holding
came_conn (On stage w) = conn_seen (stage_now stage)
came_conn (Moved stage w served) = conn_seen (stage_now stage)
came_conn (Ends e) = resting e.held

-- the record that a part gives
abbrev pub came_served : {X : Type 0} → Came X → Option Served
came_served (On stage w) = None
came_served (Moved stage w served) = served
came_served (Ends e) = e.served

-- while the step goes on no connection was touched, and where the session leaves it has none that was
abbrev pub MayTouch : {X : Type 0} → Came X → Option Touch → Type 0
MayTouch (On stage w) x = x ≡ None
MayTouch (Moved stage w served) x = ⊤
MayTouch (Ends e) x = (x ≡ None) ⊎ (e.held ≡ None)

-- while the step goes on no record was given
abbrev pub CountsOn : {X : Type 0} → DeskNow → DeskNow → Came X → Type 0
CountsOn d d' (On stage w) = d'.number ≡ d.number
CountsOn d d' (Moved stage w served) = ⊤
CountsOn d d' (Ends e) = ⊤

-- while the step goes on the session's connection stays, and the net does nothing; where the step is over it goes its way
abbrev pub CameWay : {X : Type 0} → Came X → ThreadNo → SessionNo → Option Holding → List History → List (List Note)
    → NetState → NetState → Option Touch → Type 0
CameWay (On stage w) t n c news added net net' x = StaysOn c (conn_seen (stage_now stage)) × (net' ≡ net)
CameWay (Moved stage w served) t n c news added net net' x =
    WayFor t n c (conn_seen (stage_now stage)) (outcome_of (stage_now stage)) news added net net' x served
CameWay (Ends e) t n c news added net net' x = WayFor t n c (resting e.held) Leaving news added net net' x e.served

-- a part and what it touched
pub record Parted {X : Type 0} (d : DeskNow) (s : StageNow) (seats : List History) (net : NetState)
    (d' : DeskNow) (came : Came X) (seats' : List History) (net' : NetState) : Type 0 where
  pub touch : Option Touch
  pub may : MayTouch came touch
  pub counts : CountsOn d d' came
  pub at : TouchesSeats d.worker d.session (first_of d) touch seats seats'
  pub way : CameWay came d.worker d.session (conn_seen s) seats' at.added net net' touch

-- a part that made no call of a seat or of the net, or one that may have made some
abbrev pub PartTouches : {X : Type 0} → DeskNow → StageNow → List History → NetState → DeskNow → Came X → List History → NetState → Type 0
PartTouches d s seats net d' came seats' net' =
    ((seats' ≡ seats) × (net' ≡ net) × (came_conn came ≡ conn_seen s) × CountsOn d d' came
    × GivesOwn (came_served came) (conn_seen s))
    ⊎ Parted d s seats net d' came seats' net'

-- the same of a part that only comes to another stage
abbrev pub StageTouches : DeskNow → StageNow → List History → NetState → DeskNow → StageNow → List History → NetState → Type 0
StageTouches d s seats net d' s' seats' net' =
    ((seats' ≡ seats) × (net' ≡ net) × (conn_seen s' ≡ conn_seen s))
    ⊎ SomeWay d.worker d.session (first_of d) (conn_seen s) (conn_seen s') (outcome_of s') seats seats' net net' None

-- the parts of a step so far, and one more
abbrev pub TouchesOn : {X : Type 0} → DeskNow → Came X → List History → NetState → DeskNow → Came X → List History → NetState → Type 0
TouchesOn d came seats net d' came' seats' net' =
    (d0 : DeskNow) (s0 : StageNow) (seats0 : List History) (net0 : NetState)
    → d.worker ≡ d0.worker → d.session ≡ d0.session
    → Parted d0 s0 seats0 net0 d came seats net → Parted d0 s0 seats0 net0 d' came' seats' net'

-- and the end of the step, after which the session stands there
abbrev pub TouchesAll : {X : Type 0} → DeskNow → Came X → List History → NetState → StageNow → Option Served → List History
    → NetState → Type 0
TouchesAll d came seats net s' served seats' net' =
    (d0 : DeskNow) (s0 : StageNow) (seats0 : List History) (net0 : NetState)
    → d.worker ≡ d0.worker → d.session ≡ d0.session
    → Parted d0 s0 seats0 net0 d came seats net
    → SomeWay d0.worker d0.session (first_of d0) (conn_seen s0) (conn_seen s') (outcome_of s') seats0 seats' net0 net' served

-- with a record that a part gives no byte is moved on the link of its exchange, nor while the step goes on
abbrev pub CameKeeps : {X : Type 0} → Came X → BusyNow → BusyNow → Type 0
CameKeeps (On stage w) a b = ToldStays a b
CameKeeps (Moved stage w served) a b = IfSome served (λ r. ToldStays a b)
CameKeeps (Ends e) a b = IfSome e.served (λ r. ToldStays a b)

-- what a session that leaves holds is closed, and its client's link is detached
pub record LetsGo (n : SessionNo) (held : Option RestedNow) (seats seats' : List History) (net net' : NetState)
    (client client' : LinkState) : Type 0 where
  pub meaning : IfSome held IsRested
  pub between : NetState
  pub closes : ClosesAny seats seats' n held net between
  pub detaches : NetDetaches between net' client client'

-- a connection whose exchange passed rests with the session behind a part, or it has none, and the part gives that record
abbrev pub RestsSo : {X : Type 0} → Came X → Option RestedNow → Served → Type 0
RestsSo (On stage w) held r = ⊥
RestsSo (Moved stage w served) held r = (conn_seen (stage_now stage) ≡ resting held) × (served ≡ Some r)
RestsSo (Ends e) held r = (e.held ≡ held) × (e.served ≡ Some r)

-- a stop closes the connection of an exchange; what rests with the session it still holds
abbrev pub StopCloses : StageNow → SessionNo → List History → List History → NetState → NetState → Option RestedNow → Type 0
StopCloses (Exchanging e) n olds news net net' held =
    (held ≡ None) × IsBusy e.busy × ClosesAt olds news e.busy.server.0 n e.busy.id net net' e.busy.link
StopCloses s n olds news net net' held = (resting held ≡ conn_seen s) × (news ≡ olds) × (net' ≡ net)
