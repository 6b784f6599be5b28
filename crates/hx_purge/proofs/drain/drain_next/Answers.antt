use Rattle.std.proofs.Common.{◌≡◌, ℕ, ◌*◌, ◌+◌, Option, Some, sym, subst, arith}
use Rattle.hx_pool.specs.Drain.{DrainsOne, DrainsNone}
use Rattle.hx_places.specs.Seats.{history_of}
use Rattle.hx_purge.specs.Drains.{Covers, Drains}
use Rattle.hx_purge.proofs.Closing.{passed_grows, passed_row, took_grows, took_row}
use Rattle.hx_purge.proofs.Draining.{one_drains, drains_one, none_drains, drains_none}
use Rattle.hx_purge.proofs.Emptied.{emptied_by}
use Rattle.hx_purge.proofs.drain.drain_next.Goals as goal

pub returns-in-Some-clause-answer : goal.returns-in-Some-clause-answer
returns-in-Some-clause-answer g c =
    let s0 = c.args.seat.now in
    let s1 = c.sweep.new.seat in
    let from = c.in_ok-from.from in
    let at = c.in-Some.swept.at in
    let v = g.V.Faced.shows c.in-Some.swept.v in
    let e : c.args.passed.now ≡ Some from = c.in_ok-from.was in
    let k : Covers s0 from = subst (λ (o : Option ℕ). Drains s0 o) e c.requires.drains in
    subst (λ (o : Option ℕ). DrainsOne (history_of s0 o) (history_of s1 (Some (at + 1))) v) (sym e) (drains_one s0 s1 from at c.in-Some.swept.place v k c.in-Some.ensures.answer)

pub returns-in-Some-clause-drains : goal.returns-in-Some-clause-drains
returns-in-Some-clause-drains g c =
    let s0 = c.args.seat.now in
    let from = c.in_ok-from.from in
    let k : Covers s0 from = subst (λ (o : Option ℕ). Drains s0 o) c.in_ok-from.was c.requires.drains in
    one_drains s0 c.sweep.new.seat from c.in-Some.swept.at c.in-Some.swept.place (g.V.Faced.shows c.in-Some.swept.v) k c.in-Some.ensures.answer

pub returns-in-Some-clause-grows : goal.returns-in-Some-clause-grows
returns-in-Some-clause-grows g c =
    took_grows c.args.seat.now c.sweep.new.seat c.in_ok-from.from c.in-Some.swept.at c.in-Some.swept.place (g.V.Faced.shows c.in-Some.swept.v) c.in-Some.ensures.answer c.args.passed.now (Some (c.in-Some.swept.at + 1))

pub returns-in-Some-clause-row : goal.returns-in-Some-clause-row
returns-in-Some-clause-row g c =
    took_row c.args.seat.now c.sweep.new.seat c.in_ok-from.from c.in-Some.swept.at c.in-Some.swept.place (g.V.Faced.shows c.in-Some.swept.v) c.in-Some.ensures.answer

pub returns-in-None-clause-answer : goal.returns-in-None-clause-answer
returns-in-None-clause-answer g c =
    let s0 = c.args.seat.now in
    let s1 = c.sweep.new.seat in
    let from = c.in_ok-from.from in
    let e : c.args.passed.now ≡ Some from = c.in_ok-from.was in
    let k : Covers s0 from = subst (λ (o : Option ℕ). Drains s0 o) e c.requires.drains in
    subst (λ (z : Option ℕ × ℕ). DrainsNone (history_of s0 z.0) (history_of s1 (Some (64 * z.1)))) (λ i. (sym e i, sym c.threads-threads.ensures i))
    (drains_none s0 s1 from k c.in-None.ensures.answer)

pub returns-in-None-clause-drains : goal.returns-in-None-clause-drains
returns-in-None-clause-drains g c =
    let s0 = c.args.seat.now in
    let s1 = c.sweep.new.seat in
    let from = c.in_ok-from.from in
    let k : Covers s0 from = subst (λ (o : Option ℕ). Drains s0 o) c.in_ok-from.was c.requires.drains in
    subst (λ (n : ℕ). Covers s1 (64 * n)) (sym c.threads-threads.ensures) (none_drains s0 s1 from k c.in-None.ensures.answer)

pub returns-in-None-clause-grows : goal.returns-in-None-clause-grows
returns-in-None-clause-grows g c =
    let s0 = c.args.seat.now in
    let few = c.thread.ensures.stands.few in
    passed_grows s0 c.sweep.new.seat c.in_ok-from.from (64 * s0.view.terms.threads) c.in-None.ensures.answer (omega arith) c.args.passed.now (Some (64 * c.threads-threads.result))

pub returns-in-None-clause-row : goal.returns-in-None-clause-row
returns-in-None-clause-row g c =
    let s0 = c.args.seat.now in
    let few = c.thread.ensures.stands.few in
    passed_row s0 c.sweep.new.seat c.in_ok-from.from (64 * s0.view.terms.threads) c.in-None.ensures.answer (omega arith)

pub returns-in-Some-clause-emptied : goal.returns-in-Some-clause-emptied
returns-in-Some-clause-emptied g c = λ e.
    let s1 = c.sweep.new.seat in
    emptied_by s1 (Some (c.in-Some.swept.at + 1)) c.in-Some.ensures.answer.took.steps.one (returns-in-Some-clause-drains g c) e

pub returns-in-None-clause-emptied : goal.returns-in-None-clause-emptied
returns-in-None-clause-emptied g c = λ e.
    let s1 = c.sweep.new.seat in
    emptied_by s1 (Some (64 * c.threads-threads.result)) c.in-None.ensures.answer.only.steps.one (returns-in-None-clause-drains g c) e
