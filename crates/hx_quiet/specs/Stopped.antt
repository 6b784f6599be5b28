-- How a session stood that was stopped, and where its links are.
use Rattle.std.specs.Prelude.{◌≡◌, List, Contains, Option, Some, None, ⊤}
use Rattle.hx_base.specs.declared.numbers.Millis.{Millis}
use Rattle.hx_conn.specs.Conns.{BusyNow}
use Rattle.hx_connecting.specs.Sessions.{SessionNow, Holding, Resting, Exchanging}
use Rattle.hx_course.specs.Graves.{Grave, OfClient, OfConn, grave}
use Rattle.hx_link.specs.Told.{LinkState}
use Rattle.hx_record.specs.declared.served.Carried.{Carried}
use Rattle.hx_record.specs.declared.served.CutCause.TheVariants as cut
use Rattle.hx_record.specs.declared.served.Kind.TheVariants as kind
use Rattle.hx_record.specs.declared.served.Left.{Left}
use Rattle.hx_record.specs.declared.served.LeftCause.TheVariants as left
use Rattle.hx_record.specs.declared.served.Served.{Served}
use Rattle.hx_record.specs.declared.served.Told.{Told}
use Rattle.hx_record.specs.declared.served.Told.TheVariants as line
use Rattle.hx_session.specs.Records.{IsOfExchange}
use Rattle.hx_run.specs.Standings.{StoodLast}

-- the link as it was, attached to no loop
abbrev pub IsAsItStood : LinkState → LinkState → Type 0
IsAsItStood was l = l ≡ record was { on_loop = None; faults = l.faults }

-- the exchange that was under way was cut off by the stop, in a record of its request, and its connection's link was buried as it stood
pub record WasCutOff (graves : List Grave) (records : List Told) (s : SessionNow) (b : BusyNow) : Type 0 where
  pub record_ : Served
  pub told : Contains records (line.Served record_)
  pub worker : record_.worker ≡ s.worker
  pub session : record_.session ≡ s.number
  pub begins : record_.ask.from ≡ s.asked
  pub gave : record_.gave.from ≡ s.gave
  pub carried : Carried
  pub cut_off : record_.kind ≡ kind.Cut carried cut.Stop
  pub its : IsOfExchange b carried
  pub closing : carried.closing ≡ s.closing
  pub link : LinkState
  pub buried : Contains graves (grave (OfConn b.server b.id) link)
  pub as_it_stood : IsAsItStood b.link link

-- so it was where an exchange was under way and no own answer was decided
abbrev pub WasCut : List Grave → List Told → SessionNow → Option Holding → Type 0
WasCut graves records s None = ⊤
WasCut graves records s (Some (Resting r)) = ⊤
WasCut graves records s (Some (Exchanging b)) = s.own ≡ None → WasCutOff graves records s b

-- without an exchange and an own answer its end begins behind its last record
abbrev pub EndsBehind : SessionNow → Option Holding → Left → Type 0
EndsBehind s (Some (Exchanging b)) l = ⊤
EndsBehind s c l = s.own ≡ None → l.ask.from ≡ s.asked

-- the session was stopped: it stood still at the last of these moments, and its client's link was buried as it stood
pub record WasStopped (moments : List Millis) (graves : List Grave) (records : List Told) (l : Left) : Type 0 where
  pub session : SessionNow
  pub worker : session.worker ≡ l.worker
  pub number : session.number ≡ l.session
  pub stood : StoodLast moments session
  pub client : LinkState
  pub buried : Contains graves (grave (OfClient l.worker l.session) client)
  pub as_it_stood : IsAsItStood session.client client
  pub cut : WasCut graves records session session.conn
  pub ends : EndsBehind session session.conn l

-- of a replay that told these records: so it is of each session that left because it was stopped
abbrev pub StoodStill : List Millis → List Grave → List Told → Type 0
StoodStill moments graves records =
    (l : Left) → Contains records (line.Left l) → l.cause ≡ left.Stop → WasStopped moments graves records l
