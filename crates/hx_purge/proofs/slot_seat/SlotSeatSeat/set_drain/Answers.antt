use Rattle.std.proofs.Common.{Some, refl}
use Rattle.hx_purge.proofs.Marking.{keeps_with}
use Rattle.hx_purge.proofs.slot_seat.SlotSeatSeat.set_drain.Goals as goal

pub invariant_of-self : goal.invariant_of-self
invariant_of-self g c =
    let i = c.self.inside in
    let s = c.self.invariant in
    let e = c.set_drain.ensures in
    keeps_with i.own.seat c.set_drain.new.seat i.own.row.stays i.own.row.stays i.passed (Some 0) i.totals i.totals _ s (e.grows i.passed) e.rest (e.row i.own.row.stays s.row) refl e.drains

pub returns-clause-answer : goal.returns-clause-answer
returns-clause-answer g c = rw (← c.self.view_is) (c.set_drain.ensures.answer c.self.inside.passed)
