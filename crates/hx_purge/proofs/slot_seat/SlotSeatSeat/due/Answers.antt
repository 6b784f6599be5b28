use Rattle.std.proofs.Common.{refl}
use Rattle.hx_purge.proofs.Marking.{keeps_on}
use Rattle.hx_purge.proofs.slot_seat.SlotSeatSeat.due.Goals as goal

pub invariant_of-self : goal.invariant_of-self
invariant_of-self g c =
    let i = c.self.inside in
    let s = c.self.invariant in
    keeps_on i.own.seat c.due.new.seat i.own.row.stays i.own.row.stays i.passed i.totals i.totals _ s (c.in-Some.ensures.grows i.passed) c.due.ensures.rest (c.due.ensures.row i.own.row.stays s.row) refl (tt, tt)

pub invariant_of-self-in-None : goal.invariant_of-self-in-None
invariant_of-self-in-None g c =
    let i = c.self.inside in
    let s = c.self.invariant in
    keeps_on i.own.seat c.due.new.seat i.own.row.stays i.own.row.stays i.passed i.totals i.totals _ s (c.in-None.ensures.grows i.passed) c.due.ensures.rest (c.due.ensures.row i.own.row.stays s.row) refl tt

pub returns-in-Some-clause-answer : goal.returns-in-Some-clause-answer
returns-in-Some-clause-answer g c = rw (← c.self.view_is) (c.in-Some.ensures.answer c.self.inside.passed)
