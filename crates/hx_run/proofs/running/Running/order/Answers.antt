use Rattle.std.proofs.Common.{sym, subst}
use Rattle.hx_run.specs.Runs.{IsRun}
use Rattle.hx_run.proofs.Working.{ordered_run}
use Rattle.hx_run.specs.Courses.{HasCourse}
use Rattle.hx_run.proofs.Coursing.{ordered_course}
use Rattle.hx_run.proofs.running.Running.order.Goals as goal

pub invariant_of-self-2 : goal.invariant_of-self-2
invariant_of-self-2 c = ordered_run _ _ _ _ _ _ c.self.invariant c.make_room.ensures.working c.in_ok-make_room.ensures.room c.order.ensures.orders c.order.ensures.seats

pub returns-clause-run : goal.returns-clause-run
returns-clause-run c = (
  subst IsRun c.self.view_is c.self.invariant,
  ordered_run _ _ _ _ _ _ c.self.invariant c.make_room.ensures.working c.in_ok-make_room.ensures.room c.order.ensures.orders c.order.ensures.seats,
)

pub returns-clause-course : goal.returns-clause-course
returns-clause-course c = λ plans moments came cares h. ordered_course plans moments came cares _ _ _ _ _ _ _ _ _ c.make_room.ensures.same c.order.ensures.orders (subst (HasCourse plans moments came cares) (sym c.self.view_is) h)
