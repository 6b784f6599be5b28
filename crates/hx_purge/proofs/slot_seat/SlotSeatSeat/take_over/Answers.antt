use Rattle.std.proofs.Common.{◌≡◌, refl, ap, ◌∙◌}
use Rattle.hx_pool.specs.declared.entries.Entry.TheVariants.{Take}
use Rattle.hx_pool.specs.Totals.{totals_after}
use Rattle.hx_purge.proofs.Marking.{keeps_on}
use Rattle.hx_purge.proofs.slot_seat.SlotSeatSeat.take_over.Goals as goal

pub invariant_of-self : goal.invariant_of-self
invariant_of-self g c =
    let i = c.self.inside in
    let s = c.self.invariant in
    let v = g.V.Faced.shows c.in-Ok.over.v in
    let e : c.take_entry-entry.result ≡ Take i.own.seat.view.thread c.args.n c.args.first c.in-Ok.over.place v.face.id v.face.uses
    = c.take_entry-entry.ensures ∙ (λ j. Take (c.thread-t.ensures.thread j) c.args.n c.args.first c.in-Ok.over.place (c.face.ensures j).id (c.face.ensures j).uses) in
    keeps_on i.own.seat c.find_over.new.seat i.own.row.stays i.own.row.stays i.passed i.totals _ _ s (c.in-Ok.ensures.grows i.passed) c.find_over.ensures.rest (c.find_over.ensures.row i.own.row.stays s.row)
    (c.with_counted-self-inside.ensures ∙ ap (totals_after i.totals) e) (tt, tt)

pub invariant_of-self-in-Err : goal.invariant_of-self-in-Err
invariant_of-self-in-Err g c =
    let i = c.self.inside in
    let s = c.self.invariant in
    keeps_on i.own.seat c.find_over.new.seat i.own.row.stays i.own.row.stays i.passed i.totals i.totals _ s (c.in-Err.ensures.grows i.passed) c.find_over.ensures.rest (c.find_over.ensures.row i.own.row.stays s.row) refl tt

pub returns-in-Err-clause-answer : goal.returns-in-Err-clause-answer
returns-in-Err-clause-answer g c = rw (← c.self.view_is) (c.in-Err.ensures.answer c.self.inside.passed)
