use Rattle.std.proofs.Common.{refl}
use Rattle.hx_purge.proofs.Marking.{keeps_with}
use Rattle.hx_purge.proofs.slot_seat.SlotSeatSeat.set_ready.Goals as goal

pub invariant_of-self : goal.invariant_of-self
invariant_of-self g c =
    let i = c.self.inside in
    let s = c.self.invariant in
    let e = c.set_ready.ensures in
    keeps_with i.own.seat c.set_ready.new.seat i.own.row.stays i.own.row.stays i.passed i.passed i.totals i.totals _ s (e.grows i.passed) e.rest (e.row i.own.row.stays s.row) refl (e.drains i.passed s.drains)

pub returns-clause-answer : goal.returns-clause-answer
returns-clause-answer g c = rw (← c.self.view_is) (c.set_ready.ensures.answer c.self.inside.passed)
