use Rattle.std.proofs.Common.{◌≡◌, ℕ, ◌%◌, ◌+◌, ◌<◌, subst, arith}
use Rattle.hx_takeover.specs.Scans.{row_after, PassesRow, PassesRows, TakesInRow}
use Rattle.hx_takeover.proofs.Rows.{rows_none, rows_more, rows_takes}
use Rattle.hx_takeover.proofs.scan.scan_rows.Goals as goal

pub loop-step-init : goal.loop-step-init
loop-step-init g c = record { passes = rows_none c.args.seat.now c.args.first c.requires.stands; rest = c.requires.rest; ahead = omega arith; threads = c.threads-threads.ensures }

pub returns-in-Some-clause-answer : goal.returns-in-Some-clause-answer
returns-in-Some-clause-answer g c =
    let k = c.loop-step.step in
    let s1 = c.loop-step.seat in
    let s2 = c.scan_row.new.seat in
    let e : (c.args.own + k) % c.threads-threads.result ≡ row_after c.args.seat.now k = λ i. (c.requires.own i + k) % c.threads-threads.ensures i in
    rows_takes c.args.seat.now s1 s2 c.args.n c.args.first k c.in-Some.over.place (g.V.Faced.shows c.in-Some.over.v) c.loop-step.invariant.ahead
    (subst (λ (t : ℕ). k < t) c.threads-threads.ensures c.loop-step-test.true) c.requires.stands.few c.loop-step.invariant.passes
    (subst (λ (r : ℕ). TakesInRow s1 s2 c.args.n c.args.first r c.in-Some.over.place (g.V.Faced.shows c.in-Some.over.v)) e c.in-Some.ensures.answer)

pub loop-step-preserved : goal.loop-step-preserved
loop-step-preserved g c =
    let k = c.loop-step.step in
    let s1 = c.loop-step.seat in
    let s2 = c.scan_row.new.seat in
    let e : (c.args.own + k) % c.threads-threads.result ≡ row_after c.args.seat.now k = λ i. (c.requires.own i + k) % c.threads-threads.ensures i in record {
      passes = rows_more c.args.seat.now s1 s2 c.args.first k c.loop-step.invariant.ahead c.loop-step.invariant.passes (subst (λ (r : ℕ). PassesRow s1 s2 c.args.first r) e c.in_default.ensures.answer);
      rest = c.scan_row.ensures.rest;
      ahead = omega arith;
      threads = c.loop-step.invariant.threads;
    }

pub returns-clause-answer : goal.returns-clause-answer
returns-clause-answer g c =
    let a = c.requires.stands.low in
    let t = c.threads-threads.ensures in
    let z = c.loop-step.auto.step-end in
    let e : c.loop-step.step ≡ c.args.seat.now.view.terms.threads = omega arith in
    subst (λ (k : ℕ). PassesRows c.args.seat.now c.loop-step.seat c.args.first k) e c.loop-step.invariant.passes
