use Rattle.std.proofs.Common.{refl, arith, ◌∙◌}
use Rattle.hx_run.proofs.Working.{goes_both}
use Rattle.hx_run.proofs.running.Running.stop_all.Goals as goal

pub loop-init : goal.loop-init
loop-init c = (record { config = refl; most = refl; turns = omega arith }, λ plans moments came cares stood h. h, λ moments stood. stood, refl)

pub loop-preserved : goal.loop-preserved
loop-preserved c = (
  goes_both c.args.self.now c.loop.self c.stop_one.new.self c.loop.invariant.0 c.stop_one.ensures.goes,
  λ plans moments came cares stood h. c.in_ok-stop_one.ensures.course plans moments came cares (c.loop.invariant.2 moments stood) (c.loop.invariant.1 plans moments came cares stood h),
  λ moments stood. c.in_ok-stop_one.ensures.stood moments (c.loop.invariant.2 moments stood),
  c.stop_one.ensures.turns ∙ c.loop.invariant.3,
)

pub returns-clause-course : goal.returns-clause-course
returns-clause-course c = λ plans moments came cares stood h.
    c.in_ok-stop_one.ensures.course plans moments came cares (c.loop.invariant.2 moments stood) (c.loop.invariant.1 plans moments came cares stood h)
