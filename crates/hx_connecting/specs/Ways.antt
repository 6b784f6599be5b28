-- How the connection of a session goes through calls of it, and what they do with the net.
use Rattle.std.specs.Prelude.{◌≡◌, ◌⊎◌, ◌≤◌, Bool, List, [], Option, Some, None, IfSome, slice_get, ⊤}
use Rattle.hx_base.specs.declared.numbers.ThreadNo.{ThreadNo}
use Rattle.hx_base.specs.declared.numbers.SessionNo.{SessionNo}
use Rattle.hx_base.specs.declared.what.What.{What}
use Rattle.hx_base.specs.declared.what.LinkTold.{LinkTold}
use Rattle.hx_conn.specs.Conns.{RestedNow, BusyNow}
use Rattle.hx_conn.specs.WhatTold.{what_of_link}
use Rattle.hx_link.specs.Nets.{NetState}
use Rattle.hx_pool.specs.declared.entries.Note.{Note}
use Rattle.hx_pool.specs.SeatView.{History}
use Rattle.hx_record.specs.declared.served.Kind.{Kind}
use Rattle.hx_record.specs.declared.served.Kind.TheVariants as kind
use Rattle.hx_record.specs.declared.served.Served.{Served}
use Rattle.hx_connecting.specs.Adding.{TouchesSeats}
use Rattle.hx_connecting.specs.Around.{resting}
use Rattle.hx_connecting.specs.Exchanges.{HadGoes, IsSameExchange, ExchangeGoes, PassedEnds}
use Rattle.hx_connecting.specs.Links.{IsSameLink, GainsAll, CourseStays, LinkGoes}
use Rattle.hx_connecting.specs.Outcomes.{Outcome, HasCause}
use Rattle.hx_connecting.specs.Sessions.{SessionNow, Holding, Resting, Exchanging, conn_link, conn_server, conn_id}
use Rattle.hx_connecting.specs.Touches.{Touch, Had, Stays}

-- no link is dialled or buried, and no fault is forgotten
pub record NetStays (old new : NetState) : Type 0 where
  pub course : CourseStays old new
  pub dials : GainsAll [] old.dials new.dials
  pub buries : GainsAll [] old.buried new.buried
  pub faults : old.faults ≤ new.faults

-- a record that names no connection
abbrev pub IsOwn : Kind → Type 0
IsOwn (kind.Passed c) = ⊥
IsOwn (kind.Cut c why) = ⊥
IsOwn (kind.Own status) = ⊤

-- no exchange is under way on it
abbrev pub HasNoExchange : Option Holding → Type 0
HasNoExchange None = ⊤
HasNoExchange (Some (Resting r)) = ⊤
HasNoExchange (Some (Exchanging b)) = ⊥

-- outside of an exchange only an own answer's record is given
abbrev pub GivesOwn : Option Served → Option Holding → Type 0
GivesOwn None c = ⊤
GivesOwn (Some r) c = IsOwn r.kind × HasNoExchange c

-- the bytes and the end of a link, where they are told
abbrev pub told_by : Option What → Option LinkTold
told_by None = None
told_by (Some w) = w.told

-- a record that is given with it ends the exchange on it as its kind wants, and no byte is moved with it
pub record FitsRecord (s : SessionNow) (x : Touch) (before after : Option What) (r : Served) : Type 0 where
  pub ends : PassedEnds s x after r.kind
  pub told : told_by after ≡ told_by before

-- the session had that connection and has it
abbrev pub stays_of : Holding → Touch
stays_of c = record { server = conn_server c; id = conn_id c; came = Had; went = Stays }

-- the session has the same connection as before
pub record ConnStays (c k : Holding) (served : Option Served) : Type 0 where
  pub server : conn_server k ≡ conn_server c
  pub id : conn_id k ≡ conn_id c
  pub link : IsSameLink (what_of_link (conn_link c)) (what_of_link (conn_link k))
  pub goes : HadGoes c k served
  pub fits : IfSome served (λ r. (s : SessionNow) → s.conn ≡ Some c
      → FitsRecord s (stays_of c) (Some (what_of_link (conn_link c))) (Some (what_of_link (conn_link k))) r)

-- or it had none and has none
abbrev pub StaysWith : Option Holding → Option Holding → Option Served → Type 0
StaysWith None c' served = (c' ≡ None) × IfSome served (λ r. IsOwn r.kind)
StaysWith (Some c) c' served = (k : Holding) × (c' ≡ Some k) × ConnStays c k served

-- an exchange goes on
pub record ExchangeStays (a b : BusyNow) : Type 0 where
  pub server : b.server ≡ a.server
  pub id : b.id ≡ a.id
  pub link : IsSameLink (what_of_link a.link) (what_of_link b.link)
  pub same : IsSameExchange a b

-- its link tells the bytes and the end that it told
abbrev pub ToldStays : BusyNow → BusyNow → Type 0
ToldStays a b = (what_of_link b.link).told ≡ (what_of_link a.link).told

-- a connection that rests is as it was, and one in an exchange goes on in it, and no byte was moved
abbrev pub StaysOn : Option Holding → Option Holding → Type 0
StaysOn None c' = c' ≡ None
StaysOn (Some (Resting r)) c' = c' ≡ Some (Resting r)
StaysOn (Some (Exchanging a)) c' = (b : BusyNow) × (c' ≡ Some (Exchanging b)) × ExchangeStays a b × ToldStays a b

-- the link of the touched connection goes its way, and its exchange, a record fits it, and a closing of it has a cause, for each session
-- of that number which had the one connection and has the other
abbrev pub WayOf : ThreadNo → SessionNo → Option Holding → Option Holding → Outcome → History → List Note → NetState → NetState → Touch
    → Option Served → Type 0
WayOf t n c c' z h es old new x served =
    (s s' : SessionNow) → s.conn ≡ c → s'.conn ≡ c' → s'.worker ≡ t → s'.number ≡ n
    → (g : LinkGoes s s' h es old new x) × ExchangeGoes s s' x x.went g.before served
    × IfSome served (λ r. FitsRecord s x g.before g.after r)
    × HasCause n z s s' h es old new x g.before g.after served

pub record WayAt (t : ThreadNo) (n : SessionNo) (c c' : Option Holding) (z : Outcome) (news : List History)
    (added : List (List Note)) (old new : NetState) (x : Touch) (served : Option Served) : Type 0 where
  pub history : History
  pub es : List Note
  pub seat : slice_get news x.server.0 ≡ Some history
  pub entries : slice_get added x.server.0 ≡ Some es
  pub faults : old.faults ≤ new.faults
  pub way : WayOf t n c c' z history es old new x served

-- where no connection was touched, the session has what it had
abbrev pub WayFor : ThreadNo → SessionNo → Option Holding → Option Holding → Outcome → List History → List (List Note) → NetState
    → NetState → Option Touch → Option Served → Type 0
WayFor t n c c' z news added old new None served = StaysWith c c' served × NetStays old new
WayFor t n c c' z news added old new (Some x) served = WayAt t n c c' z news added old new x served

-- calls that touched one connection, or none: their entries, and the way of the session's connection
pub record SomeWay (t : ThreadNo) (n : SessionNo) (first : Bool) (c c' : Option Holding) (z : Outcome) (olds news : List History)
    (old new : NetState) (served : Option Served) : Type 0 where
  pub touch : Option Touch
  pub at : TouchesSeats t n first touch olds news
  pub way : WayFor t n c c' z news at.added old new touch served

-- and where they touched one, nothing rests with the session behind them
pub record RestWay (t : ThreadNo) (n : SessionNo) (first : Bool) (c : Option Holding) (z : Outcome) (olds news : List History)
    (old new : NetState) (held : Option RestedNow) (served : Option Served) : Type 0 where
  pub touch : Option Touch
  pub may : (touch ≡ None) ⊎ (held ≡ None)
  pub at : TouchesSeats t n first touch olds news
  pub way : WayFor t n c (resting held) z news at.added old new touch served
