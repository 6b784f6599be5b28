use Rattle.std.proofs.Common.{◌<◌, [], ◌∷◌, refl, ap, ◌∙◌, subst, arith}
use Rattle.hx_base.specs.declared.numbers.ThreadNo.{ThreadNo}
use Rattle.hx_pool.specs.declared.entries.Entry.TheVariants.{Open}
use Rattle.hx_pool.specs.History.{plain, opens_of}
use Rattle.hx_pool.specs.Opening.{open_limit}
use Rattle.hx_pool.specs.Totals.{totals_after}
use Rattle.hx_takeover.proofs.Counting.{none_grows}
use Rattle.hx_purge.proofs.Slotting.{note_calls, note_grows, note_keeps}
use Rattle.hx_purge.proofs.slot_seat.SlotSeatSeat.open_new.Goals as goal

pub returns-then-opens-most_opens-clause-grows : goal.returns-then-opens-most_opens-clause-grows
returns-then-opens-most_opens-clause-grows g c = rw (← c.self.view_is) (none_grows c.self.inside.own.seat c.thread-t.ensures.stands c.self.inside.passed)

pub invariant_of-self-2 : goal.invariant_of-self-2
invariant_of-self-2 g c =
    let i = c.self.inside in
    let s0 = i.own.seat in
    let id = c.draw-id.result in
    note_keeps s0 c.draw-id.new.self (plain (Open s0.view.thread c.args.n id)) c.draw-id.ensures.notes refl refl (tt, tt) (tt, tt) i.own.row.stays i.passed i.totals _ c.self.invariant
    (c.with_counted-self-inside.ensures ∙ ap (λ (t : ThreadNo). totals_after i.totals (Open t c.args.n id)) c.thread-t.ensures.thread)

pub returns-clause-answer : goal.returns-clause-answer
returns-clause-answer g c =
    let i = c.self.inside in
    let s0 = i.own.seat in
    let a = c.opens.ensures in
    let b = c.most_opens.ensures in
    let f = c.if-opens-most_opens.false in
    let low : opens_of s0.view.mine < open_limit c.thread-t.result = omega arith in
    let room = subst (λ (t : ThreadNo). opens_of s0.view.mine < open_limit t) c.thread-t.ensures.thread low in
    rw (← c.self.view_is) (room, note_calls s0 c.draw-id.new.self (plain (Open s0.view.thread c.args.n c.draw-id.result)) c.draw-id.ensures.notes refl refl (tt, tt) (tt, tt) i.passed)

pub returns-clause-grows : goal.returns-clause-grows
returns-clause-grows g c =
    let i = c.self.inside in
    let s0 = i.own.seat in
    rw (← c.self.view_is) (note_grows s0 c.draw-id.new.self (plain (Open s0.view.thread c.args.n c.draw-id.result)) c.draw-id.ensures.notes refl refl (tt, tt) (tt, tt) i.passed _
    (c.one_mark-self-inside.ensures ∙ ap (λ (t : ThreadNo). Open t c.args.n c.draw-id.result ∷ []) c.thread-t.ensures.thread))
