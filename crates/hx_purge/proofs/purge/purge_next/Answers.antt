use Rattle.std.proofs.Common.{ℕ, ◌*◌, ◌+◌, [], inl, refl, ap, ◌∙◌, arith}
use Rattle.hx_pool.specs.declared.budget.Quota.{Quota}
use Rattle.hx_pool.specs.Causes.{nth_place}
use Rattle.hx_pool.proofs.Purges.{purge_goes, purge_stays}
use Rattle.hx_places.specs.Seats.{history_of}
use Rattle.hx_rows.proofs.Stepping.{steps_none, calls_of}
use Rattle.hx_purge.proofs.Closing.{passed_grows, passed_row, purges_none, took_grows, took_row, purges_one}
use Rattle.hx_purge.proofs.purge.purge_next.Goals as goal

pub returns-then-quota-eq0-clause-quota : goal.returns-then-quota-eq0-clause-quota
returns-then-quota-eq0-clause-quota g c = λ d.
    let s0 = c.args.seat.now in
    let q : Quota = c.args.quota.now in
    purge_stays (history_of s0 d) (history_of s0 d) q q (inl (c.if-quota-eq0.true, refl, calls_of s0 s0 [] d (steps_none s0 c.thread-t.ensures.stands) refl))

pub returns-in-Some-clause-answer : goal.returns-in-Some-clause-answer
returns-in-Some-clause-answer g c = λ d.
    let s0 = c.args.seat.now in
    let at = c.in-Some.swept.at in
    let made = c.quota_at.ensures in
    let some = c.if-quota-eq0.false in
    let left = made.0 in
    let t = c.thread-t.ensures.thread in
    let k = c.threads-threads.ensures in
    purges_one s0 c.sweep.new.seat c.args.quota.now c.quota_at.result at c.in-Some.swept.place (g.V.Faced.shows c.in-Some.swept.v) c.in-Some.ensures.answer (omega arith) made.1
    (λ h. made.2 (omega arith) ∙ (λ i. nth_place (t i) (k i) (at + 1))) d

pub returns-in-Some-clause-quota : goal.returns-in-Some-clause-quota
returns-in-Some-clause-quota g c = λ d.
    purge_goes (history_of c.args.seat.now d) (history_of c.sweep.new.seat d) c.args.quota.now c.quota_at.result (g.V.Faced.shows c.in-Some.swept.v) (returns-in-Some-clause-answer g c d)

pub returns-in-Some-clause-grows : goal.returns-in-Some-clause-grows
returns-in-Some-clause-grows g c = λ d.
    took_grows c.args.seat.now c.sweep.new.seat c.args.quota.now.seen c.in-Some.swept.at c.in-Some.swept.place (g.V.Faced.shows c.in-Some.swept.v) c.in-Some.ensures.answer d d

pub returns-in-Some-clause-row : goal.returns-in-Some-clause-row
returns-in-Some-clause-row g c =
    took_row c.args.seat.now c.sweep.new.seat c.args.quota.now.seen c.in-Some.swept.at c.in-Some.swept.place (g.V.Faced.shows c.in-Some.swept.v) c.in-Some.ensures.answer

pub returns-in-None-clause-answer : goal.returns-in-None-clause-answer
returns-in-None-clause-answer g c = λ d.
    let s0 = c.args.seat.now in
    let q : Quota = c.args.quota.now in
    let r : Quota = record q { seen = 64 * c.threads-threads.result } in
    purges_none s0 c.sweep.new.seat q r c.in-None.ensures.answer c.if-quota-eq0.false refl (ap (λ (n : ℕ). 64 * n) c.threads-threads.ensures) d

pub returns-in-None-clause-quota : goal.returns-in-None-clause-quota
returns-in-None-clause-quota g c = λ d.
    let q : Quota = c.args.quota.now in
    let r : Quota = record q { seen = 64 * c.threads-threads.result } in
    purge_stays (history_of c.args.seat.now d) (history_of c.sweep.new.seat d) q r (returns-in-None-clause-answer g c d)

pub returns-in-None-clause-grows : goal.returns-in-None-clause-grows
returns-in-None-clause-grows g c = λ d.
    let s0 = c.args.seat.now in
    let few = c.thread-t.ensures.stands.few in
    passed_grows s0 c.sweep.new.seat c.args.quota.now.seen (64 * s0.view.terms.threads) c.in-None.ensures.answer (omega arith) d d

pub returns-in-None-clause-row : goal.returns-in-None-clause-row
returns-in-None-clause-row g c =
    let s0 = c.args.seat.now in
    let few = c.thread-t.ensures.stands.few in
    passed_row s0 c.sweep.new.seat c.args.quota.now.seen (64 * s0.view.terms.threads) c.in-None.ensures.answer (omega arith)
