use Rattle.std.proofs.Common.{List, ap, ◌∙◌}
use Rattle.hx_pool.specs.declared.entries.Entry.{Entry}
use Rattle.hx_pool.specs.Totals.{totals_from}
use Rattle.hx_purge.proofs.Marking.{keeps_with}
use Rattle.hx_purge.proofs.Slotting.{take_drains}
use Rattle.hx_purge.proofs.slot_seat.SlotSeatSeat.take_own.Goals as goal

pub invariant_of-self : goal.invariant_of-self
invariant_of-self g c =
    let i = c.self.inside in
    let s = c.self.invariant in
    let e = c.take_own-result.ensures in
    let o = c.take_own-result.new.self in
    keeps_with i.own.seat o.seat i.own.row.stays o.row.stays i.passed i.passed i.totals _ _ s (e.grows i.passed) e.rest e.row
    (c.with_marks-self-inside.ensures ∙ ap (λ (l : List Entry). totals_from i.totals l) c.last-self-inside.ensures)
    (take_drains g.V.Faced.shows i.own.seat o.seat c.args.n c.args.first i.passed c.take_own-result.result (e.answer i.passed) s.drains)
