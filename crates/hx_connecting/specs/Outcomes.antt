-- How a call of a session ends, and that a closing in it has a cause.
use Rattle.std.specs.Prelude.{◌≡◌, List, [], ◌∷◌, Option, IsSome, ⊤}
use Rattle.hx_base.specs.declared.numbers.SessionNo.{SessionNo}
use Rattle.hx_base.specs.declared.what.What.{What}
use Rattle.hx_link.specs.Nets.{NetState}
use Rattle.hx_pool.specs.declared.entries.Entry.{Entry}
use Rattle.hx_pool.specs.declared.entries.Entry.TheVariants.{Close}
use Rattle.hx_pool.specs.declared.entries.Note.{Note}
use Rattle.hx_pool.specs.SeatView.{History}
use Rattle.hx_pool.specs.Wants.{ClosesForCause}
use Rattle.hx_record.specs.declared.served.Left.{Left}
use Rattle.hx_record.specs.declared.served.Served.{Served}
use Rattle.hx_connecting.specs.Closings.{ClosesFor, call_of}
use Rattle.hx_connecting.specs.Exchanges.{IsClosed}
use Rattle.hx_connecting.specs.Sessions.{SessionNow}
use Rattle.hx_connecting.specs.Touches.{Touch}

-- the session goes on, it stands with an own answer that is decided, or it leaves
pub data Outcome : Type 0 where
  Going : Outcome
  Deciding : Outcome
  Leaving : Outcome

abbrev pub ComesOut : Outcome → SessionNow → Option Left → Type 0
ComesOut Going s' left = ⊤
ComesOut Deciding s' left = IsSome s'.own
ComesOut Leaving s' left = IsSome left

-- entries without a Close
abbrev pub ClosesNot : Entry → Type 0
ClosesNot (Close t n id) = ⊥
ClosesNot _ = ⊤

abbrev pub CloseNone : List Entry → Type 0
CloseNone [] = ⊤
CloseNone (e ∷ es) = ClosesNot e × CloseNone es

-- each Close among the entries of session n has a cause, if the touched connection was closed
abbrev pub HasCause : SessionNo → Outcome → SessionNow → SessionNow → History → List Note → NetState → NetState → Touch → Option What
    → Option What → Option Served → Type 0
HasCause n z s s' h es old new x before after served =
    IsClosed x.went → (left : Option Left) → s.number ≡ n → ComesOut z s' left
    → ClosesForCause (λ m id front. ClosesFor (call_of s s' old new h front x before after served left)) [] es
