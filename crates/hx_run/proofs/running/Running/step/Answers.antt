use Rattle.std.proofs.Common.{refl, sym, ap, subst}
use Rattle.hx_run.proofs.Going.{steps_there}
use Rattle.hx_run.proofs.Working.{stepped_run}
use Rattle.hx_run.specs.Courses.{HasCourse}
use Rattle.hx_run.specs.Runs.{IsRoomier, RunNow}
use Rattle.hx_run.proofs.Coursing.{stepped_course}
use Rattle.hx_run.proofs.Standing.{step_stands}
use Rattle.hx_run.proofs.running.Running.step.Goals as goal

pub invariant_of-self-in_err-tell : goal.invariant_of-self-in_err-tell
invariant_of-self-in_err-tell c =
    stepped_run _ _ _ _ _ _ _ c.self.invariant c.make_room.ensures.working c.in_ok-make_room.ensures.room c.step-step.ensures.steps c.step-step.ensures.seats

pub invariant_of-self-2 : goal.invariant_of-self-2
invariant_of-self-2 c =
    stepped_run _ _ _ _ _ _ _ c.self.invariant c.make_room.ensures.working c.in_ok-make_room.ensures.room c.step-step.ensures.steps c.step-step.ensures.seats

pub returns-clause-stays : goal.returns-clause-stays
returns-clause-stays c = λ no. steps_there _ _ _ _ _ _ c.step-step.ensures.steps no

pub returns-clause-course : goal.returns-clause-course
returns-clause-course c = λ plans moments came cares at h.
    stepped_course plans moments came cares _ _ _ _ _ _ _ _ _ _ _ at c.make_room.ensures.same c.step-step.ensures.timely c.make_room.ensures.working.seats c.step-step.ensures.seats c.in_ok-tell.ensures (subst (HasCourse plans moments came cares) (sym c.self.view_is) h)

pub returns-clause-stood : goal.returns-clause-stood
returns-clause-stood c =
    step_stands c.args.self.now _ _ _ _ _ _ _ _ (subst (λ (r : RunNow). IsRoomier r.worker c.make_room.new.worker) c.self.view_is c.make_room.ensures.same) refl (ap (λ (r : RunNow). r.turns) c.self.view_is) c.step-step.ensures.timely
