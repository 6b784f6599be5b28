-- A framing has one kind of body, or a fault.
use Rattle.std.proofs.Common.{◌≡◌, Ok, Err}
use Rattle.hx_message.specs.declared.BodyKind.{BodyKind}
use Rattle.hx_message.specs.declared.FrameFault.{FrameFault}
use Rattle.hx_message.specs.Body.{Framed}

-- a framing has a kind or a fault
pub no_fault : (r : Framed) (kind : BodyKind) (fault : FrameFault) → r ≡ Ok kind → r ≡ Err fault → ⊥
no_fault r kind fault a b = cc

-- a framing has one kind
pub one_kind : (r : Framed) (k l : BodyKind) → r ≡ Ok k → r ≡ Ok l → k ≡ l
one_kind r k l a b = cc
