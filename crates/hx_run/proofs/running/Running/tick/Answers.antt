use Rattle.std.proofs.Common.{sym, subst}
use Rattle.hx_run.proofs.Working.{ticked_run}
use Rattle.hx_run.specs.Courses.{HasCourse}
use Rattle.hx_run.proofs.Coursing.{ticked_course}
use Rattle.hx_run.proofs.running.Running.tick.Goals as goal

pub invariant_of-self-2 : goal.invariant_of-self-2
invariant_of-self-2 c = ticked_run _ _ _ _ _ _ c.self.invariant c.make_room.ensures.working c.in_ok-make_room.ensures.room c.tick.ensures.ticks c.tick.ensures.seats

pub returns-clause-course : goal.returns-clause-course
returns-clause-course c = λ plans moments came cares at h. ticked_course plans moments came cares _ _ _ _ _ _ _ _ _ at c.make_room.ensures.same c.tick.ensures.ticks (subst (HasCourse plans moments came cares) (sym c.self.view_is) h)
