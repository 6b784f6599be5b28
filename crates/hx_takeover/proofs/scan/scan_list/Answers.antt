use Rattle.std.proofs.Common.{◌≡◌, ℕ, subst, arith}
use Rattle.hx_takeover.specs.Scans.{Passes}
use Rattle.hx_takeover.proofs.Trying.{passes_none, passes_more, list_takes}
use Rattle.hx_takeover.proofs.scan.scan_list.Goals as goal

pub loop-number-init : goal.loop-number-init
loop-number-init g c = record { passes = passes_none c.args.seat.now c.args.first c.args.safe c.args.row c.requires.stands; rest = c.requires.rest }

pub returns-in-Some-clause-answer : goal.returns-in-Some-clause-answer
returns-in-Some-clause-answer g c =
    list_takes c.args.seat.now c.loop-number.seat c.try_place.new.seat c.args.n c.args.first c.args.safe c.args.row c.loop-number.number (g.V.Faced.shows c.in-Some.v)
    c.loop-number.invariant.passes c.loop-number-test.true c.in-Some.ensures.answer

pub loop-number-preserved : goal.loop-number-preserved
loop-number-preserved g c = record {
  passes = passes_more c.args.seat.now c.loop-number.seat c.try_place.new.seat c.args.first c.args.safe c.args.row c.loop-number.number c.loop-number.invariant.passes c.in_default.ensures.answer;
  rest = c.try_place.ensures.rest;
}

pub returns-clause-answer : goal.returns-clause-answer
returns-clause-answer g c =
    let e : c.loop-number.number ≡ 64 = omega arith in
    subst (λ (k : ℕ). Passes c.args.seat.now c.loop-number.seat c.args.first c.args.safe c.args.row k) e c.loop-number.invariant.passes
