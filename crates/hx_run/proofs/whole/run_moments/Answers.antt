use Rattle.std.proofs.Common.{[], refl, subst, arith}
use Rattle.std.specs.Prelude.{take}
use Rattle.std.proofs.lemmas.Result.{err_from_is_err_and}
use Rattle.hx_config.specs.Meaning.{Meaning}
use Rattle.hx_run.specs.Dues.{AreDue}
use Rattle.hx_run.proofs.Coursing.{comes_in, comes_none, comes_through, comes_up_to}
use Rattle.hx_run.proofs.Ending.{same_error}
use Rattle.hx_run.proofs.Standing.{none_last, stood_last, stood_through}
use Rattle.hx_run.proofs.Working.{goes_both}
use Rattle.hx_run.proofs.whole.run_moments.Goals as goal

pub loop-now-init : goal.loop-now-init
loop-now-init c = (
  record { config = refl; most = refl; turns = omega arith },
  c.requires.due,
  comes_none c.args.moments.now c.args.running.now c.args.due.now,
  c.in_ok-may_turn.ensures.left,
  none_last (take 0 c.args.moments.now) c.args.running.now.worker c.requires.empty,
)

pub loop-now-preserved : goal.loop-now-preserved
loop-now-preserved c = (
  goes_both c.args.running.now c.loop-now.running c.run_moment.new.running c.loop-now.invariant.0 c.run_moment.ensures.goes,
  subst (λ (m : Meaning). AreDue m c.run_moment.new.due) c.loop-now.invariant.0.config c.run_moment.ensures.due,
  comes_in c.args.moments.now c.loop-now.now-index _ c.args.running.now c.loop-now.running c.run_moment.new.running c.args.due.now c.loop-now.due c.run_moment.new.due c.loop-now-test.true c.loop-now.invariant.2 c.in_ok-run_moment.ensures.course,
  c.in_ok-run_moment.ensures.left c.loop-now.invariant.3,
  stood_last c.args.moments.now c.loop-now.now-index _ c.run_moment.new.running.worker c.loop-now-test.true c.in_ok-run_moment.ensures.stood,
)

pub returns-in_err-may_turn-clause-stops : goal.returns-in_err-may_turn-clause-stops
returns-in_err-may_turn-clause-stops c = λ is.
    record { passed = []; later = c.args.moments.now; parts = refl; comes = comes_none c.args.moments.now c.args.running.now c.args.due.now }

pub returns-in_err-run_moment-clause-stops : goal.returns-in_err-run_moment-clause-stops
returns-in_err-run_moment-clause-stops c =
    let p = err_from_is_err_and c.from_residual-in_err-run_moment.result c.from_residual-in_err-run_moment.ensures.1 in
    rw (p.1, p.2) (λ is.
    comes_up_to c.args.moments.now c.loop-now.now-index _ c.args.running.now c.loop-now.running c.run_moment.new.running c.args.due.now c.loop-now.due c.run_moment.new.due c.loop-now-test.true c.loop-now.invariant.2
    (c.in_err-run_moment.ensures.stops (same_error _ _ is)))

pub returns-clause-course : goal.returns-clause-course
returns-clause-course c =
    comes_through c.args.moments.now c.loop-now.now-index c.args.running.now c.loop-now.running c.args.due.now c.loop-now.due c.loop-now-test.false c.loop-now.invariant.2

pub returns-clause-stood : goal.returns-clause-stood
returns-clause-stood c = stood_through c.args.moments.now c.loop-now.now-index c.loop-now.running.worker c.loop-now-test.false c.loop-now.invariant.4
