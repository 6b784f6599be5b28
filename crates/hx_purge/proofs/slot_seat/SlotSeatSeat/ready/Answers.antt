use Rattle.std.proofs.Common.{refl}
use Rattle.hx_pool.specs.declared.entries.Entry.TheVariants.{Gate}
use Rattle.hx_pool.specs.History.{plain}
use Rattle.hx_purge.proofs.Slotting.{not_not, note_calls, note_grows, note_keeps}
use Rattle.hx_purge.proofs.slot_seat.SlotSeatSeat.ready.Goals as goal

pub invariant_of-self : goal.invariant_of-self
invariant_of-self g c =
    let i = c.self.inside in
    let s0 = i.own.seat in
    note_keeps s0 c.gate.new.self (plain (Gate s0.view.thread c.gate.result)) c.gate.ensures.notes refl refl (tt, tt) tt i.own.row.stays i.passed i.totals i.totals c.self.invariant refl

pub returns-clause-answer : goal.returns-clause-answer
returns-clause-answer g c =
    let i = c.self.inside in
    let s0 = i.own.seat in
    rw (← c.self.view_is) (rw not_not (note_calls s0 c.gate.new.self (plain (Gate s0.view.thread c.gate.result)) c.gate.ensures.notes refl refl (tt, tt) tt i.passed))

pub returns-clause-grows : goal.returns-clause-grows
returns-clause-grows g c =
    let i = c.self.inside in
    let s0 = i.own.seat in
    rw (← c.self.view_is) (note_grows s0 c.gate.new.self (plain (Gate s0.view.thread c.gate.result)) c.gate.ensures.notes refl refl (tt, tt) tt i.passed _ refl)
