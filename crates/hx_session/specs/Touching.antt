-- What a call did with the one connection that it touched, if it touched one.
use Rattle.std.specs.Prelude.{List, [], Option, Some, None, IfSome, ⊤}
use Rattle.hx_base.specs.declared.what.What.{What}
use Rattle.hx_pool.specs.SeatView.{History}
use Rattle.hx_pool.specs.Wants.{ClosesForCause}
use Rattle.hx_pool.specs.declared.entries.Note.{Note}
use Rattle.hx_connecting.specs.Touches.{Touch}
use Rattle.hx_connecting.specs.Links.{LinkGoes, NoLinkGoes}
use Rattle.hx_connecting.specs.Closings.{Call, ClosesFor}
use Rattle.hx_connecting.specs.Exchanges.{ExchangeGoes, PassedEnds}
use Rattle.hx_connecting.specs.Ways.{IsOwn}
use Rattle.hx_session.specs.Doings.{Doing, AtServer}

-- the closing in a call behind these entries of it, seen by the cause
abbrev pub closing_call : Doing → History → List Note → Touch → Option What → Option What → Call
closing_call d h es x before after = record {
  old = d.old;
  new = d.new;
  net_old = d.before.net;
  net_new = d.after.net;
  history = h;
  before_close = es;
  touch = x;
  before = before;
  after = after;
  served = d.served;
  left = d.left;
}

-- its link goes its way, and its exchange too
pub record TouchesOne (d : Doing) (x : Touch) : Type 0 where
  pub at : AtServer d x.server
  pub goes : LinkGoes d.old d.new at.history at.es d.before.net d.after.net x
  pub exchange : ExchangeGoes d.old d.new x x.went goes.before d.served
  pub passed : IfSome d.served (λ r. PassedEnds d.old x goes.after r.kind)

abbrev pub Touches : Doing → Option Touch → Type 0
Touches d None = NoLinkGoes d.old d.new d.before.net d.after.net × IfSome d.served (λ r. IsOwn r.kind)
Touches d (Some x) = TouchesOne d x

-- a closing of it has a cause
abbrev pub ClosesForCauses : (d : Doing) (x : Option Touch) → Touches d x → Type 0
ClosesForCauses d None t = ⊤
ClosesForCauses d (Some x) t =
    ClosesForCause (λ n id before. ClosesFor (closing_call d t.at.history before x t.goes.before t.goes.after)) [] t.at.es

-- what the link of the touched connection tells after the call
abbrev pub after_of : (d : Doing) (x : Option Touch) → Touches d x → Option What
after_of d None t = None
after_of d (Some x) t = t.goes.after
