use Rattle.std.proofs.Common.{◌≡◌, ℕ, ◌*◌, ◌∙◌, subst, arith}
use Rattle.hx_pool.specs.Causes.{nth_place}
use Rattle.hx_purge.specs.Sweeps.{PassesTo}
use Rattle.hx_purge.proofs.Sweeping.{passes_more, next_takes}
use Rattle.hx_purge.proofs.sweep.sweep.Goals as goal

pub returns-in-Some-clause-answer : goal.returns-in-Some-clause-answer
returns-in-Some-clause-answer g c =
    let at = c.loop-at.at in
    let e = c.threads-threads.ensures in
    let z = c.loop-at-test.true in
    next_takes c.args.seat.now c.loop-at.seat c.try_place.new.seat c.args.from at c.place_at-place.result (g.V.Faced.shows c.in-Some.v) c.loop-at.invariant.ahead
    (omega arith) c.requires.stands.few (c.place_at-place.ensures ∙ (λ i. nth_place (c.thread-t.ensures.thread i) (c.threads-threads.ensures i) at))
    c.loop-at.invariant.passes c.in-Some.ensures.answer

pub loop-at-preserved : goal.loop-at-preserved
loop-at-preserved g c =
    let at = c.loop-at.at in
    let ahead = c.loop-at.invariant.ahead in record {
      passes = passes_more c.args.seat.now c.loop-at.seat c.try_place.new.seat c.args.from at c.place_at-place.result ahead
          (c.place_at-place.ensures ∙ (λ i. nth_place (c.thread-t.ensures.thread i) (c.threads-threads.ensures i) at))
          c.loop-at.invariant.passes c.in_default.ensures.answer;
      rest = c.try_place.ensures.rest;
      ahead = omega arith;
    }

pub returns-clause-answer : goal.returns-clause-answer
returns-clause-answer g c =
    let t = c.threads-threads.ensures in
    let f = c.requires.from in
    let a = c.loop-at.invariant.ahead in
    let z = c.loop-at.auto.at-end in
    let n = c.loop-at-test.false in
    let e : c.loop-at.at ≡ 64 * c.args.seat.now.view.terms.threads = omega arith in
    subst (λ (k : ℕ). PassesTo c.args.seat.now c.loop-at.seat c.args.from k) e c.loop-at.invariant.passes
