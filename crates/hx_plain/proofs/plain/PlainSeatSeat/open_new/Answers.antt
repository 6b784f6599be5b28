use Rattle.std.proofs.Common.{refl, arith}
use Rattle.hx_plain.proofs.Steps.{open_stands}
use Rattle.hx_plain.proofs.Keeping.{keeps_on, calls_by, grows_by, grows_none}
use Rattle.hx_plain.proofs.plain.PlainSeatSeat.open_new.Goals as goal

pub invariant_of-self-2 : goal.invariant_of-self-2
invariant_of-self-2 g c =
    let s = c.self.invariant in
    let t = open_stands _ _ _ _ s.stands c.args.n (record { 0 = c.self.inside.next }) c.requires refl (omega arith) in
    rw c.write.ensures (keeps_on _ c.self.inside.ledger.notes _ _ _ _ _ s _ _ _ _ _ t (tt, tt) c.with_counted-self-inside.ensures s.roomy)

pub returns-clause-answer : goal.returns-clause-answer
returns-clause-answer g c =
    let s = c.self.invariant.stands in
    let o = s.opened in
    let t = open_stands _ _ _ _ s c.args.n (record { 0 = c.self.inside.next }) c.requires refl (omega arith) in
    rw (← c.self.view_is, c.write.ensures) (omega arith, calls_by _ _ c.self.inside.ledger.notes _ s.one t.one refl)

pub returns-then-self-gt-MOST_OPENS-clause-grows : goal.returns-then-self-gt-MOST_OPENS-clause-grows
returns-then-self-gt-MOST_OPENS-clause-grows g c = rw (← c.self.view_is) (grows_none _ _ _ c.self.inside.ledger.notes c.self.invariant.stands.one)

pub returns-clause-grows : goal.returns-clause-grows
returns-clause-grows g c =
    let s = c.self.invariant.stands in
    let o = s.opened in
    let t = open_stands _ _ _ _ s c.args.n (record { 0 = c.self.inside.next }) c.requires refl (omega arith) in
    rw (← c.self.view_is, c.write.ensures) (grows_by _ _ _ c.self.inside.ledger.notes _ _ s.one t.one refl c.one_mark-self-inside.ensures (omega arith))
