use Rattle.std.proofs.Common.{◌≡◌, ℕ, ◌≤◌, ◌<◌, sym, ap, ◌∙◌, subst}
use Rattle.hx_base.specs.declared.rules.PoolRules.{PoolRules}
use Rattle.hx_takeover.proofs.Counting.{count_rest, count_row, sees_none, seen_grows, seen_row, takes_over, takes_in_order, grows_by, took_row}
use Rattle.hx_takeover.proofs.takeover.find_over.Goals as goal

pub returns-then-is_below-clause-row : goal.returns-then-is_below-clause-row
returns-then-is_below-clause-row g c = count_row c.args.seat.now c.count-count.new.self c.count-count.result c.count-count.ensures.notes

pub returns-then-is_below-clause-rest : goal.returns-then-is_below-clause-rest
returns-then-is_below-clause-rest g c = count_rest c.args.seat.now c.count-count.new.self c.count-count.result c.count-count.ensures.notes c.requires.rest

pub scan_rows-requires-clause-rest : goal.scan_rows-requires-clause-rest
scan_rows-requires-clause-rest g c = count_rest c.args.seat.now c.count-count.new.self c.count-count.result c.count-count.ensures.notes c.requires.rest

pub returns-in-Some-clause-answer : goal.returns-in-Some-clause-answer
returns-in-Some-clause-answer g c = λ q.
    takes_over c.args.seat.now c.count-count.new.self c.count-count.result c.count-count.ensures.notes c.scan_rows.new.seat c.args.n c.args.first c.in-Some.over.place (g.V.Faced.shows c.in-Some.over.v) c.in-Some.ensures.answer q
    (subst (λ (r : PoolRules). r.low ≤ c.count-count.result) c.rules-rules.ensures c.if-is_below.ensures)

pub returns-in-Some-clause-order : goal.returns-in-Some-clause-order
returns-in-Some-clause-order g c =
    takes_in_order c.args.seat.now c.count-count.new.self c.count-count.result c.count-count.ensures.notes c.scan_rows.new.seat c.args.n c.args.first c.in-Some.over.place (g.V.Faced.shows c.in-Some.over.v) c.in-Some.ensures.answer

pub returns-in-Some-clause-grows : goal.returns-in-Some-clause-grows
returns-in-Some-clause-grows g c = λ q.
    grows_by c.args.seat.now c.count-count.new.self c.count-count.result c.count-count.ensures.notes c.scan_rows.new.seat c.args.n c.args.first c.in-Some.over.place (g.V.Faced.shows c.in-Some.over.v) c.in-Some.ensures.answer q

pub returns-in-Some-clause-row : goal.returns-in-Some-clause-row
returns-in-Some-clause-row g c =
    took_row c.args.seat.now c.count-count.new.self c.count-count.result c.count-count.ensures.notes c.scan_rows.new.seat c.args.n c.args.first c.in-Some.over.place (g.V.Faced.shows c.in-Some.over.v) c.in-Some.ensures.answer

pub returns-in-None-clause-answer : goal.returns-in-None-clause-answer
returns-in-None-clause-answer g c = λ q.
    let s1 = c.count-count.new.self in
    let one = c.count-count.ensures.notes.one in
    let some = subst (λ (r : PoolRules). (u : ℕ) × (Rattle.hx_pool.specs.Rules.allows r.mode c.args.first u ≡ Rattle.std.proofs.Common.true)) c.rules-rules.ensures c.if-not-allows_some.ensures in
    sees_none c.args.seat.now s1 c.count-count.result c.count-count.ensures.notes c.scan_rows.new.seat c.args.first c.in-None.ensures.answer one.few one.low q
    (subst (λ (r : PoolRules). r.low ≤ c.count-count.result) c.rules-rules.ensures c.if-is_below.ensures) some

pub returns-in-None-clause-grows : goal.returns-in-None-clause-grows
returns-in-None-clause-grows g c = λ q.
    let one = c.count-count.ensures.notes.one in
    seen_grows c.args.seat.now c.count-count.new.self c.count-count.result c.count-count.ensures.notes c.scan_rows.new.seat c.args.first c.in-None.ensures.answer one.few one.low q

pub returns-in-None-clause-row : goal.returns-in-None-clause-row
returns-in-None-clause-row g c =
    let one = c.count-count.ensures.notes.one in
    seen_row c.args.seat.now c.count-count.new.self c.count-count.result c.count-count.ensures.notes c.scan_rows.new.seat c.args.first c.in-None.ensures.answer one.few one.low
