use Rattle.std.proofs.Common.{◌≡◌, Bool, true, false, not, refl, arith}
use Rattle.hx_plain.proofs.Steps.{gate_stands}
use Rattle.hx_plain.proofs.Keeping.{keeps_on, calls_by, grows_by}
use Rattle.hx_plain.proofs.plain.PlainSeatSeat.ready.Goals as goal

not_not : (b : Bool) → not (not b) ≡ b
not_not true = refl
not_not false = refl

pub invariant_of-self : goal.invariant_of-self
invariant_of-self g c =
    let s = c.self.invariant in
    let t = gate_stands _ _ _ _ s.stands in
    rw c.write.ensures (keeps_on _ c.self.inside.ledger.notes _ _ _ _ _ s _ _ _ _ _ t (tt, tt) refl s.roomy)

pub returns-clause-answer : goal.returns-clause-answer
returns-clause-answer g c =
    let i = c.self.inside in
    let s = c.self.invariant.stands in
    let t = gate_stands _ _ _ _ s in
    rw (← c.self.view_is, c.write.ensures) (rw not_not (calls_by _ _ i.ledger.notes _ s.one t.one refl))

pub returns-clause-grows : goal.returns-clause-grows
returns-clause-grows g c =
    let i = c.self.inside in
    let s = c.self.invariant.stands in
    let t = gate_stands _ _ _ _ s in
    rw (← c.self.view_is, c.write.ensures) (grows_by _ _ _ i.ledger.notes _ _ s.one t.one refl refl (omega arith))
