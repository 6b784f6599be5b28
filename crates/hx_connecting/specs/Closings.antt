-- Why a session closes a connection.
use Rattle.std.specs.Prelude.{◌≡◌, ◌⊎◌, ℕ, ◌<◌, true, List, length, Option, Some, IsSome, IfSome}
use Rattle.hx_base.specs.Counts.{Rose}
use Rattle.hx_base.specs.Spans.{bytes_in}
use Rattle.hx_base.specs.declared.rules.Mode.TheVariants.{Never}
use Rattle.hx_base.specs.declared.numbers.PlaceNo.{PlaceNo}
use Rattle.hx_base.specs.declared.what.What.{What}
use Rattle.hx_base.specs.declared.what.LinkTold.{LinkTold}
use Rattle.hx_conn.specs.Conns.{RestedNow, BusyNow}
use Rattle.hx_link.specs.Nets.{NetState}
use Rattle.hx_message.specs.Message.{Persists}
use Rattle.hx_pool.specs.SeatView.{History}
use Rattle.hx_pool.specs.Wants.{EndsRefused}
use Rattle.hx_pool.specs.declared.entries.Note.{Note}
use Rattle.hx_record.specs.declared.served.Carried.{Carried}
use Rattle.hx_record.specs.declared.served.CutCause.{CutCause}
use Rattle.hx_record.specs.declared.served.Kind.TheVariants as kind
use Rattle.hx_record.specs.declared.served.Left.{Left}
use Rattle.hx_record.specs.declared.served.Served.{Served}
use Rattle.hx_connecting.specs.Sessions.{SessionNow, IsSomeAnd}
use Rattle.hx_connecting.specs.Sessions.{Resting, Exchanging}
use Rattle.hx_connecting.specs.Touches.{Touch}
use Rattle.hx_connecting.specs.Touches.{Opened, Took}

-- what a cause may speak of: the call, and the connection that it closed
pub record Call : Type 0 where
  pub old : SessionNow
  pub new : SessionNow
  pub net_old : NetState
  pub net_new : NetState
  pub history : History
  -- the call's own entries on the connection's server before the close
  pub before_close : List Note
  pub touch : Touch
  pub before : Option What
  pub after : Option What
  pub served : Option Served
  pub left : Option Left

abbrev pub call_of : SessionNow → SessionNow → NetState → NetState → History → List Note → Touch → Option What → Option What → Option Served
    → Option Left → Call
call_of s s' net_old net_new h es x before after served left = record {
  old = s;
  new = s';
  net_old = net_old;
  net_new = net_new;
  history = h;
  before_close = es;
  touch = x;
  before = before;
  after = after;
  served = served;
  left = left;
}

-- it rested with the session when the call began, or was taken in it
abbrev pub WasAtRest : Call → Type 0
WasAtRest c =
    ((r : RestedNow) × (c.old.conn ≡ Some (Resting r)))
    ⊎ ((place : PlaceNo) × (uses : ℕ) × (c.touch.came ≡ Took place uses))

-- its link ended, spoke or failed in the call
abbrev pub Dies : LinkTold → LinkTold → Type 0
Dies a b = (b.ended ≡ true) ⊎ (length a.taken < length b.taken)

abbrev pub TellsDeath : Option What → Option What → Type 0
TellsDeath before after =
    (a : What) × (b : What) × (before ≡ Some a) × (after ≡ Some b)
    × (Rose a.faults b.faults ⊎ IfSome a.told (λ x. IfSome b.told (λ y. Dies x y)))

abbrev pub NetFailed : Call → Type 0
NetFailed c = Rose c.net_old.faults c.net_new.faults

-- the exchange passed in the call
abbrev pub PassedNow : Call → Carried → Type 0
PassedNow c p = (r : Served) × (c.served ≡ Some r) × (r.kind ≡ kind.Passed p)

-- bytes came past the answer, the answer ends the connection, it was used as often as may be, or its park was refused
abbrev pub MayNotRest : Call → BusyNow → Carried → Type 0
MayNotRest c b p =
    (IsSomeAnd c.after (λ w. IfSome w.told (λ l. p.took.to < length l.taken)))
    ⊎ (IsSomeAnd c.after (λ w. IfSome w.told (λ l. ¬ Persists b.exchange.method (bytes_in l.taken p.took))))
    ⊎ (b.uses ≡ 65535)
    ⊎ EndsRefused c.history c.old.number c.touch.id c.before_close

-- the exchange that was under way was cut off or got an own answer, or one was decided for it
abbrev pub IsCutNow : Call → Served → Type 0
IsCutNow c r =
    (p : Carried) × (why : CutCause) × (r.kind ≡ kind.Cut p why) × (p.server ≡ c.touch.server) × (p.id ≡ c.touch.id)

abbrev pub IsOwnNow : Served → Type 0
IsOwnNow r = (status : ℕ) × (r.kind ≡ kind.Own status)

pub record WasBrokenOff (c : Call) : Type 0 where
  pub exchange : BusyNow
  pub was : c.old.conn ≡ Some (Exchanging exchange)
  pub ends : ((r : Served) × (c.served ≡ Some r) × (IsCutNow c r ⊎ IsOwnNow r)) ⊎ IsSome c.new.own

pub data ClosesFor (c : Call) : Type 0 where
  ended_at_rest : WasAtRest c → TellsDeath c.before c.after ⊎ NetFailed c → ClosesFor c
  dial_failed : c.touch.came ≡ Opened → NetFailed c → ClosesFor c
  not_reusable :
      (b : BusyNow) → (p : Carried) → c.old.conn ≡ Some (Exchanging b) → PassedNow c p → MayNotRest c b p → ClosesFor c
  never_shared : c.history.about.rules.mode ≡ Never → IsSome c.left → ClosesFor c
  broken_off : WasBrokenOff c → ClosesFor c
