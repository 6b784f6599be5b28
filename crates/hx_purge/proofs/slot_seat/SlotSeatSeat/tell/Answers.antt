use Rattle.hx_purge.proofs.Slotting.{told_keeps}
use Rattle.hx_purge.proofs.slot_seat.SlotSeatSeat.tell.Goals as goal

pub invariant_of-other : goal.invariant_of-other
invariant_of-other g c =
    let i = c.other.inside in
    told_keeps c.self.inside.own.seat i.own.seat c.tell.new.other c.tell.ensures.told i.own.row.stays i.passed i.totals c.other.invariant
