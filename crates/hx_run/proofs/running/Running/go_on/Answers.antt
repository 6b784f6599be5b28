use Rattle.std.proofs.Common.{Bool, Ok, ap, arith, refl}
use Rattle.hx_run.proofs.Standing.{leaves_both, leaves_same, stands_behind}
use Rattle.hx_run.proofs.Working.{goes_both}
use Rattle.hx_run.proofs.running.Running.go_on.Goals as goal

pub loop-preserved : goal.loop-preserved
loop-preserved c = (
  goes_both c.args.self.now c.loop.self c.turn.new.self c.loop.invariant.0 c.turn.ensures.goes,
  c.in_ok-turn.ensures.there (ap (λ (b : Bool). Ok b) c.if-branch.true),
  λ plans moments came cares at h. c.in_ok-turn.ensures.course plans moments came cares at (c.loop.invariant.2 plans moments came cares at h),
  leaves_both c.args.n c.args.self.now c.loop.self c.turn.new.self c.loop.invariant.3 c.in_ok-turn.ensures.stood.leaves,
)

pub loop-init : goal.loop-init
loop-init c = (record { config = refl; most = refl; turns = omega arith }, c.requires.there, λ plans moments came cares at h. h, leaves_same c.args.n c.args.self.now)

pub returns-clause-stood : goal.returns-clause-stood
returns-clause-stood c = stands_behind c.args.now c.args.n c.args.self.now c.loop.self c.turn.new.self c.loop.invariant.0.turns c.turn.ensures.goes.turns c.loop.invariant.3 c.in_ok-turn.ensures.stood

pub returns-clause-course : goal.returns-clause-course
returns-clause-course c = λ plans moments came cares at h. c.in_ok-turn.ensures.course plans moments came cares at (c.loop.invariant.2 plans moments came cares at h)
