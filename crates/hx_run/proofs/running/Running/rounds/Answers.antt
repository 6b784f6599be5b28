use Rattle.hx_run.proofs.Working.{goes_both}
use Rattle.hx_run.proofs.running.Running.rounds.Goals as goal

pub loop-preserved : goal.loop-preserved
loop-preserved c = (
  goes_both c.args.self.now c.loop.self c.round.new.self c.loop.invariant.0 c.round.ensures.goes,
  λ plans moments came cares at h. c.in_ok-round.ensures.course plans moments came cares at (c.loop.invariant.1 plans moments came cares at h),
  λ few. c.in_ok-round.ensures.left (c.loop.invariant.2 few),
)

pub returns-clause-course : goal.returns-clause-course
returns-clause-course c = λ plans moments came cares at h. c.in_ok-round.ensures.course plans moments came cares at (c.loop.invariant.1 plans moments came cares at h)
