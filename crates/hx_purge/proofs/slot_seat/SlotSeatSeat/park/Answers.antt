use Rattle.std.proofs.Common.{List, ap, ◌∙◌}
use Rattle.hx_pool.specs.declared.entries.Entry.{Entry}
use Rattle.hx_pool.specs.Totals.{totals_from}
use Rattle.hx_purge.proofs.Marking.{keeps_with}
use Rattle.hx_purge.proofs.Slotting.{park_drains}
use Rattle.hx_purge.proofs.slot_seat.SlotSeatSeat.park.Goals as goal

pub invariant_of-self : goal.invariant_of-self
invariant_of-self g c =
    let i = c.self.inside in
    let s = c.self.invariant in
    let e = c.park-result.ensures in
    let o = c.park-result.new.self in
    keeps_with i.own.seat o.seat i.own.row.stays o.row.stays i.passed i.passed i.totals _ _ s (e.grows i.passed) e.rest e.row
    (c.with_marks-self-inside.ensures ∙ ap (λ (l : List Entry). totals_from i.totals l) c.last-self-inside.ensures)
    (park_drains (λ u. u.why) i.own.seat o.seat c.args.n (g.V.Faced.shows c.args.v) i.passed c.park-result.result (e.answer i.passed) s.drains)
