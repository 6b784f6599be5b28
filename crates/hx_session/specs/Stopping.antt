-- The stop of a session: what a worker learns of it.
use Rattle.std.specs.Prelude.{◌≡◌, ℕ, List, Option, Some, None, IfSome, IsSome}
use Rattle.hx_base.specs.declared.what.What.{What}
use Rattle.hx_link.specs.Told.{LinkState}
use Rattle.hx_pool.specs.declared.entries.Note.{Note}
use Rattle.hx_record.specs.declared.served.Left.{Left}
use Rattle.hx_record.specs.declared.served.Served.{Served}
use Rattle.hx_record.specs.declared.served.LeftCause.TheVariants as cause
use Rattle.hx_connecting.specs.Sessions.{SessionNow, Around, Holding, is_first, conn_link, Exchanging}
use Rattle.hx_connecting.specs.Touches.{Touch, Adds, Had, Ends}
use Rattle.hx_connecting.specs.Links.{LinkGoes, NoLinkGoes}
use Rattle.hx_session.specs.Records.{Records, LeftStands}
use Rattle.hx_record.specs.declared.served.CutCause.TheVariants as cut
use Rattle.hx_record.specs.declared.served.Kind.{Kind}
use Rattle.hx_record.specs.declared.served.Kind.TheVariants as kind
use Rattle.hx_session.specs.Doings.{Doing, AtServer, IsSameSession, IsSameNet}
use Rattle.hx_connecting.specs.Holds.{HoldsAt}

-- the session's connection is closed, which needs no further cause; its link is buried as it stood
pub record StopsConn (d : Doing) (x : Touch) : Type 0 where
  pub at : AtServer d x.server
  pub came : x.came ≡ Had
  pub went : x.went ≡ Ends
  pub goes : LinkGoes d.old d.new at.history at.es d.before.net d.after.net x
  pub conn : Holding
  pub was : d.old.conn ≡ Some conn
  pub link : LinkState
  pub gone : goes.gone ≡ Some link
  pub as_it_stood : link ≡ record (conn_link conn) { on_loop = None; faults = link.faults }

abbrev pub StopTouches : Doing → Option Touch → Type 0
StopTouches d None = (d.old.conn ≡ None) × NoLinkGoes d.old d.new d.before.net d.after.net
StopTouches d (Some x) = StopsConn d x

abbrev pub stopped_of : (d : Doing) (x : Option Touch) → StopTouches d x → Option What
stopped_of d None t = None
stopped_of d (Some x) t = t.goes.after

-- what a stop makes of an exchange, or of an own answer that wasn't given whole
abbrev pub StopsKind : SessionNow → Kind → Type 0
StopsKind s (kind.Passed c) = ⊥
StopsKind s (kind.Cut c why) = (s.own ≡ None) × (why ≡ cut.Stop) × (c.closing ≡ s.closing)
StopsKind s (kind.Own status) = s.own ≡ Some status

-- a stop makes a record exactly where an own answer was decided or an exchange was under way
abbrev pub ServesAtStop : SessionNow → Option Holding → Option ℕ → Option Served → Type 0
ServesAtStop s c (Some status) served = IsSome served
ServesAtStop s (Some (Exchanging b)) None served = IsSome served
ServesAtStop s c None served = served ≡ None

abbrev pub stopping : SessionNow → SessionNow → Around → Around → List (List Note) → Option Served → Left → Doing
stopping s s' before after added served left = record {
  old = s;
  new = s';
  before = before;
  after = after;
  added = added;
  served = served;
  left = Some left;
}

-- the record and the end that it gave
pub record StopTells (d : Doing) (left : Left) (x : Option Touch) (t : StopTouches d x) : Type 0 where
  pub records : Records d.old d.new (stopped_of d x t) (Some left) d.served
  pub leaves : LeftStands d.new left
  pub serves : ServesAtStop d.old d.old.conn d.old.own d.served
  pub kind : IfSome d.served (λ r. StopsKind d.old r.kind)
  pub cause : left.cause ≡ cause.Stop

-- the worker stops the session: no byte is moved, and the client's link comes back without a loop
pub record SessionStops (s s' : SessionNow) (before after : Around) (served : Option Served) (left : Left) : Type 0 where
  pub same : IsSameSession s s'
  pub client : s'.client ≡ record s.client { on_loop = None; faults = s'.client.faults }
  pub turns : after.turns ≡ before.turns
  pub net : IsSameNet before.net after.net
  pub touch : Option Touch
  pub added : List (List Note)
  pub adds : Adds s.worker s.number (is_first s) touch before.seats after.seats added
  pub touched : StopTouches (stopping s s' before after added served left) touch
  pub tells : StopTells (stopping s s' before after added served left) left touch touched
  pub holds : HoldsAt s' 0 after.seats
