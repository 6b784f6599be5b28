use Rattle.std.proofs.Common.{◌≡◌, false, refl, ap, ◌∙◌}
use Rattle.hx_pool.specs.declared.entries.Entry.TheVariants.{Take}
use Rattle.hx_pool.specs.Causes.{caretaker}
use Rattle.hx_pool.specs.Totals.{totals_after}
use Rattle.hx_purge.proofs.Marking.{keeps_with}
use Rattle.hx_purge.proofs.slot_seat.SlotSeatSeat.drain_next.Goals as goal

pub invariant_of-self : goal.invariant_of-self
invariant_of-self g c =
    let i = c.self.inside in
    let s = c.self.invariant in
    let d = c.drain_next-taken.ensures in
    let v = g.V.Faced.shows c.in-Some.over.v in
    let e : c.care_entry-entry.result ≡ Take i.own.seat.view.thread caretaker false c.in-Some.over.place v.face.id v.face.uses
    = c.care_entry-entry.ensures ∙ (λ j. Take (c.thread-t.ensures.thread j) caretaker false c.in-Some.over.place (c.face.ensures j).id (c.face.ensures j).uses) in
    keeps_with i.own.seat c.drain_next-taken.new.seat i.own.row.stays i.own.row.stays i.passed c.drain_next-taken.new.passed i.totals _ _ s c.in-Some.ensures.grows d.rest (d.row i.own.row.stays s.row)
    (c.with_counted-self-inside.ensures ∙ ap (totals_after i.totals) e) d.drains

pub invariant_of-self-in-None : goal.invariant_of-self-in-None
invariant_of-self-in-None g c =
    let i = c.self.inside in
    let s = c.self.invariant in
    let d = c.drain_next-taken.ensures in
    keeps_with i.own.seat c.drain_next-taken.new.seat i.own.row.stays i.own.row.stays i.passed c.drain_next-taken.new.passed i.totals i.totals _ s c.in-None.ensures.grows d.rest (d.row i.own.row.stays s.row) refl d.drains
