use Rattle.std.proofs.Common.{Bool, true, sym, subst}
use Rattle.hx_run.specs.Courses.{HasCourse}
use Rattle.hx_run.specs.Runs.{RunNow}
use Rattle.hx_run.specs.Standings.{StandsAlone}
use Rattle.hx_run.specs.Turns.{counted}
use Rattle.hx_run.proofs.Coursing.{moved_on, still_on}
use Rattle.hx_run.proofs.running.Running.turn.Goals as goal

pub returns-in_err-may_turn-2-clause-stops : goal.returns-in_err-may_turn-2-clause-stops
returns-in_err-may_turn-2-clause-stops c = λ is plans moments came cares at h.
    subst (λ (r : RunNow). HasCourse plans moments came cares (counted true r)) (sym c.self.view_is)
    (moved_on plans moments came cares c.in_ok-step.step.moved c.step.new.self c.if-step.true (c.in_ok-step.ensures.course plans moments came cares at h))

pub returns-in_ok-may_turn-2-clause-course : goal.returns-in_ok-may_turn-2-clause-course
returns-in_ok-may_turn-2-clause-course c = λ plans moments came cares at h.
    subst (λ (r : RunNow). HasCourse plans moments came cares (counted true r)) (sym c.self.view_is)
    (moved_on plans moments came cares c.in_ok-step.step.moved c.step.new.self c.if-step.true (c.in_ok-step.ensures.course plans moments came cares at h))

pub returns-else-step-clause-course : goal.returns-else-step-clause-course
returns-else-step-clause-course c = λ plans moments came cares at h.
    still_on plans moments came cares c.in_ok-step.step.moved c.step.new.self c.if-step.false (c.in_ok-step.ensures.course plans moments came cares at h)

-- a step that moved made a turn
pub returns-in_ok-may_turn-2-clause-stood : goal.returns-in_ok-may_turn-2-clause-stood
returns-in_ok-may_turn-2-clause-stood c =
    subst (λ (r : RunNow). StandsAlone c.args.now c.args.n c.args.self.now (counted true r)) (sym c.self.view_is)
    (subst (λ (b : Bool). StandsAlone c.args.now c.args.n c.args.self.now (counted b c.step.new.self)) c.if-step.true c.in_ok-step.ensures.stood)

pub returns-else-step-clause-stood : goal.returns-else-step-clause-stood
returns-else-step-clause-stood c = subst (λ (b : Bool). StandsAlone c.args.now c.args.n c.args.self.now (counted b c.step.new.self)) c.if-step.false c.in_ok-step.ensures.stood
