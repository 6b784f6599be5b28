use Rattle.std.proofs.Common.{◌≡◌, false, refl, ap, ◌∙◌}
use Rattle.hx_pool.specs.declared.entries.Entry.TheVariants.{Take}
use Rattle.hx_pool.specs.Causes.{caretaker}
use Rattle.hx_pool.specs.Totals.{totals_after}
use Rattle.hx_purge.proofs.Marking.{keeps_on}
use Rattle.hx_purge.proofs.slot_seat.SlotSeatSeat.purge_next.Goals as goal

pub invariant_of-self : goal.invariant_of-self
invariant_of-self g c =
    let i = c.self.inside in
    let s = c.self.invariant in
    let v = g.V.Faced.shows c.in-Some.over.v in
    let e : c.care_entry-entry.result ≡ Take i.own.seat.view.thread caretaker false c.in-Some.over.place v.face.id v.face.uses
    = c.care_entry-entry.ensures ∙ (λ j. Take (c.thread-t.ensures.thread j) caretaker false c.in-Some.over.place (c.face.ensures j).id (c.face.ensures j).uses) in
    keeps_on i.own.seat c.purge_next.new.seat i.own.row.stays i.own.row.stays i.passed i.totals _ _ s (c.in-Some.ensures.grows i.passed) c.purge_next.ensures.rest (c.purge_next.ensures.row i.own.row.stays s.row)
    (c.with_counted-self-inside.ensures ∙ ap (totals_after i.totals) e) (tt, tt)

pub invariant_of-self-in-None : goal.invariant_of-self-in-None
invariant_of-self-in-None g c =
    let i = c.self.inside in
    let s = c.self.invariant in
    keeps_on i.own.seat c.purge_next.new.seat i.own.row.stays i.own.row.stays i.passed i.totals i.totals _ s (c.in-None.ensures.grows i.passed) c.purge_next.ensures.rest (c.purge_next.ensures.row i.own.row.stays s.row) refl tt

pub returns-in-Some-clause-answer : goal.returns-in-Some-clause-answer
returns-in-Some-clause-answer g c = rw (← c.self.view_is) (c.in-Some.ensures.answer c.self.inside.passed)

pub returns-in-Some-clause-quota : goal.returns-in-Some-clause-quota
returns-in-Some-clause-quota g c = rw (← c.self.view_is) (c.purge_next.ensures.quota c.self.inside.passed)

pub returns-in-None-clause-quota : goal.returns-in-None-clause-quota
returns-in-None-clause-quota g c = rw (← c.self.view_is) (c.purge_next.ensures.quota c.self.inside.passed)
