use Rattle.std.proofs.Common.{[], ◌∷◌, true, false, refl, sym, ap, ◌∙◌, subst}
use Rattle.hx_base.specs.declared.numbers.ThreadNo.{ThreadNo}
use Rattle.hx_base.specs.declared.rules.PoolRules.{PoolRules}
use Rattle.hx_pool.specs.declared.entries.Entry.TheVariants.{Take}
use Rattle.hx_pool.specs.Causes.{place_of}
use Rattle.hx_pool.specs.SeatView.{Grows, last_list}
use Rattle.hx_places.specs.Seats.{history_of, IsOwn, IsOfBoard}
use Rattle.hx_rows.specs.Row.{RowView, IsRowOf}
use Rattle.hx_rows.specs.Stays.{NoneFits, Pulls}
use Rattle.hx_rows.specs.Steps.{Gets, Loses}
use Rattle.hx_rows.proofs.Trying.{tried_none, tried_lost, smaller, take_own_place, take_board, take_may, take_turn, takes_own, grows_took, row_took, takes_none, grows_none}
use Rattle.hx_rows.proofs.row.Row.take_own.Goals as goal

pub loop-stay-init : goal.loop-stay-init
loop-stay-init g c = record {
  tried = tried_none c.args.seat.now c.self.inside.stays c.thread-t.ensures.stands c.requires.rest
      (subst (λ (r : RowView). IsRowOf r.stays c.args.seat.now) (sym c.self.view_is) c.requires.row);
  last = refl;
}

pub take_from-requires-clause-own : goal.take_from-requires-clause-own
take_from-requires-clause-own g c =
    subst (λ (u : ThreadNo). IsOwn c.loop-stay.seat (place_of u.0 c.in-Some.stay.place)) (sym c.thread-t.ensures.thread)
    (take_own_place c.args.seat.now c.loop-stay.seat c.rules-mode.result.mode c.args.first c.loop-stay.self-inside.stays c.pull_best.new.self c.in-Some.stay c.loop-stay.invariant.tried c.in-Some.ensures)

pub take_from-requires-clause-place : goal.take_from-requires-clause-place
take_from-requires-clause-place g c =
    subst (λ (u : ThreadNo). IsOfBoard c.loop-stay.seat (place_of u.0 c.in-Some.stay.place)) (sym c.thread-t.ensures.thread)
    (take_board c.args.seat.now c.loop-stay.seat c.rules-mode.result.mode c.args.first c.loop-stay.self-inside.stays c.pull_best.new.self c.in-Some.stay c.loop-stay.invariant.tried c.in-Some.ensures)

pub take_from-requires-clause-takes : goal.take_from-requires-clause-takes
take_from-requires-clause-takes g c =
    take_may c.args.seat.now c.loop-stay.seat c.args.n c.args.first c.loop-stay.self-inside.stays c.pull_best.new.self c.in-Some.stay c.loop-stay.invariant.tried
    (subst (λ (r : PoolRules). Pulls r.mode c.args.first c.loop-stay.self-inside.stays c.in-Some.stay c.pull_best.new.self) c.rules-mode.ensures c.in-Some.ensures)

pub take_from-requires-clause-turn : goal.take_from-requires-clause-turn
take_from-requires-clause-turn g c =
    take_turn c.args.seat.now c.loop-stay.seat c.loop-stay.self-inside.stays (place_of c.thread-t.result.0 c.in-Some.stay.place) c.in-Some.stay.face c.loop-stay.invariant.tried

pub take_from-requires-clause-idle : goal.take_from-requires-clause-idle
take_from-requires-clause-idle g c = c.loop-stay.invariant.tried.rest.idle

pub returns-in-Some-take_from-clause-answer : goal.returns-in-Some-take_from-clause-answer
returns-in-Some-take_from-clause-answer g c =
    let s0 = c.args.seat.now in
    let s1 = c.loop-stay.seat in
    let s2 = c.take_from.new.seat in
    let x = c.in-Some.stay in
    let v = g.V.Faced.shows c.in-Some-take_from.v in
    let P = subst (λ (r : PoolRules). Pulls r.mode c.args.first c.loop-stay.self-inside.stays x c.pull_best.new.self) c.rules-mode.ensures c.in-Some.ensures in
    let K = subst (λ (u : ThreadNo). Gets s1 s2 c.args.n c.args.first (place_of u.0 x.place) x.face v) c.thread-t.ensures.thread c.in-Some-take_from.ensures in
    takes_own s0 s1 s2 c.args.n c.args.first c.loop-stay.self-inside.stays c.pull_best.new.self x v c.loop-stay.invariant.tried P K

pub returns-in-Some-take_from-clause-grows : goal.returns-in-Some-take_from-clause-grows
returns-in-Some-take_from-clause-grows g c =
    let s0 = c.args.seat.now in
    let s1 = c.loop-stay.seat in
    let s2 = c.take_from.new.seat in
    let x = c.in-Some.stay in
    let v = g.V.Faced.shows c.in-Some-take_from.v in
    let P = subst (λ (r : PoolRules). Pulls r.mode c.args.first c.loop-stay.self-inside.stays x c.pull_best.new.self) c.rules-mode.ensures c.in-Some.ensures in
    let K = subst (λ (u : ThreadNo). Gets s1 s2 c.args.n c.args.first (place_of u.0 x.place) x.face v) c.thread-t.ensures.thread c.in-Some-take_from.ensures in
    let marks = c.one_mark-self-inside.ensures ∙ (ap (λ e. e ∷ []) c.take_entry.ensures ∙ ap (λ (u : ThreadNo). Take u c.args.n c.args.first (place_of u.0 x.place) x.face.id x.face.uses ∷ []) c.thread-t.ensures.thread) in
    λ q. subst (Grows (history_of s0 q) (history_of s2 q)) (sym marks)
    (grows_took s0 s1 s2 c.args.n c.args.first c.loop-stay.self-inside.stays c.pull_best.new.self x v c.loop-stay.invariant.tried P K q)

pub returns-in-Some-take_from-clause-row : goal.returns-in-Some-take_from-clause-row
returns-in-Some-take_from-clause-row g c =
    let s0 = c.args.seat.now in
    let s1 = c.loop-stay.seat in
    let s2 = c.take_from.new.seat in
    let x = c.in-Some.stay in
    let v = g.V.Faced.shows c.in-Some-take_from.v in
    let P = subst (λ (r : PoolRules). Pulls r.mode c.args.first c.loop-stay.self-inside.stays x c.pull_best.new.self) c.rules-mode.ensures c.in-Some.ensures in
    let K = subst (λ (u : ThreadNo). Gets s1 s2 c.args.n c.args.first (place_of u.0 x.place) x.face v) c.thread-t.ensures.thread c.in-Some-take_from.ensures in
    row_took s0 s1 s2 c.args.n c.args.first c.loop-stay.self-inside.stays c.pull_best.new.self x v c.loop-stay.invariant.tried P K

pub loop-stay-smaller : goal.loop-stay-smaller
loop-stay-smaller g c = smaller c.rules-mode.result.mode c.args.first c.loop-stay.self-inside.stays c.pull_best.new.self c.in-Some.stay c.in-Some.ensures

pub loop-stay-preserved : goal.loop-stay-preserved
loop-stay-preserved g c =
    let s1 = c.loop-stay.seat in
    let s2 = c.take_from.new.seat in
    let x = c.in-Some.stay in
    let L = subst (λ (u : ThreadNo). Loses s1 s2 (place_of u.0 x.place) x.face) c.thread-t.ensures.thread c.in_default-take_from.ensures in record {
      tried = tried_lost c.args.seat.now s1 s2 c.rules-mode.result.mode c.args.first c.loop-stay.self-inside.stays c.pull_best.new.self x c.loop-stay.invariant.tried c.in-Some.ensures L;
      last = c.loop-stay.invariant.last;
    }

pub returns-clause-answer : goal.returns-clause-answer
returns-clause-answer g c =
    let none = c.in_default.ensures in
    takes_none c.args.seat.now c.loop-stay.seat c.args.first c.loop-stay.self-inside.stays c.loop-stay.invariant.tried
    (subst (λ (r : PoolRules). NoneFits r.mode c.args.first true c.loop-stay.self-inside.stays) c.rules-mode.ensures none.1)
    (subst (λ (r : PoolRules). NoneFits r.mode c.args.first false c.loop-stay.self-inside.stays) c.rules-mode.ensures none.2)

pub returns-clause-grows : goal.returns-clause-grows
returns-clause-grows g c = λ q.
    subst (λ l. Grows (history_of c.args.seat.now q) (history_of c.loop-stay.seat q) (last_list l)) (sym c.loop-stay.invariant.last)
    (grows_none c.args.seat.now c.loop-stay.seat c.loop-stay.self-inside.stays c.loop-stay.invariant.tried q)
