use Rattle.std.proofs.Common.{refl, arith}
use Rattle.hx_plain.proofs.Steps.{close_stands}
use Rattle.hx_plain.proofs.Keeping.{keeps_on, calls_by, grows_by}
use Rattle.hx_plain.proofs.plain.PlainSeatSeat.close.Goals as goal

pub invariant_of-self : goal.invariant_of-self
invariant_of-self g c =
    let s = c.self.invariant in
    let has = rw (← c.self.view_is) at c.requires.1 in
    let t = close_stands _ _ _ _ s.stands c.args.n c.args.id c.requires.0 has in
    rw c.write.ensures (keeps_on _ c.self.inside.ledger.notes _ _ _ _ _ s _ _ _ _ _ t (tt, tt) c.with_counted-self-inside.ensures s.roomy)

pub returns-clause-answer : goal.returns-clause-answer
returns-clause-answer g c =
    let s = c.self.invariant.stands in
    let has = rw (← c.self.view_is) at c.requires.1 in
    let t = close_stands _ _ _ _ s c.args.n c.args.id c.requires.0 has in
    rw (← c.self.view_is, c.write.ensures) (calls_by _ _ c.self.inside.ledger.notes _ s.one t.one refl)

pub returns-clause-grows : goal.returns-clause-grows
returns-clause-grows g c =
    let s = c.self.invariant.stands in
    let has = rw (← c.self.view_is) at c.requires.1 in
    let t = close_stands _ _ _ _ s c.args.n c.args.id c.requires.0 has in
    rw (← c.self.view_is, c.write.ensures) (grows_by _ _ _ c.self.inside.ledger.notes _ _ s.one t.one refl c.one_mark-self-inside.ensures (omega arith))
