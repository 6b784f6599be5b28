use Rattle.std.proofs.Common.{[], ◌∷◌, refl, ap, ◌∙◌}
use Rattle.hx_base.specs.declared.numbers.ThreadNo.{ThreadNo}
use Rattle.hx_pool.specs.declared.entries.Entry.TheVariants.{Close}
use Rattle.hx_pool.specs.History.{plain}
use Rattle.hx_pool.specs.Totals.{totals_after}
use Rattle.hx_purge.proofs.Slotting.{note_calls, note_grows, note_keeps}
use Rattle.hx_purge.proofs.slot_seat.SlotSeatSeat.close.Goals as goal

pub invariant_of-self : goal.invariant_of-self
invariant_of-self g c =
    let i = c.self.inside in
    let s0 = i.own.seat in
    note_keeps s0 c.note_close.new.self (plain (Close s0.view.thread c.args.n c.args.id)) c.note_close.ensures.notes refl refl (tt, tt) (tt, tt) i.own.row.stays i.passed i.totals _ c.self.invariant
    (c.with_counted-self-inside.ensures ∙ ap (λ (t : ThreadNo). totals_after i.totals (Close t c.args.n c.args.id)) c.thread-t.ensures.thread)

pub returns-clause-answer : goal.returns-clause-answer
returns-clause-answer g c =
    let i = c.self.inside in
    let s0 = i.own.seat in
    rw (← c.self.view_is) (note_calls s0 c.note_close.new.self (plain (Close s0.view.thread c.args.n c.args.id)) c.note_close.ensures.notes refl refl (tt, tt) (tt, tt) i.passed)

pub returns-clause-grows : goal.returns-clause-grows
returns-clause-grows g c =
    let i = c.self.inside in
    let s0 = i.own.seat in
    rw (← c.self.view_is) (note_grows s0 c.note_close.new.self (plain (Close s0.view.thread c.args.n c.args.id)) c.note_close.ensures.notes refl refl (tt, tt) (tt, tt) i.passed _
    (c.one_mark-self-inside.ensures ∙ ap (λ (t : ThreadNo). Close t c.args.n c.args.id ∷ []) c.thread-t.ensures.thread))
