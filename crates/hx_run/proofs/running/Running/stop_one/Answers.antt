use Rattle.std.proofs.Common.{sym, subst}
use Rattle.hx_run.proofs.Working.{stopped_run}
use Rattle.hx_run.specs.Courses.{HasCourse}
use Rattle.hx_run.specs.Runs.{RunNow}
use Rattle.hx_run.specs.Standings.{AllStoodLast}
use Rattle.hx_run.proofs.Coursing.{none_course, stopped_course}
use Rattle.hx_run.proofs.Standing.{none_still, others_still}
use Rattle.hx_run.proofs.running.Running.stop_one.Goals as goal

pub invariant_of-self-in_err-tell-in-Some : goal.invariant_of-self-in_err-tell-in-Some
invariant_of-self-in_err-tell-in-Some c =
    stopped_run _ _ _ _ _ _ _ c.self.invariant c.make_room.ensures.working c.in_ok-make_room.ensures.room c.stop_next.ensures.stops c.in-Some.is c.stop_next.ensures.seats

pub invariant_of-self-in-Some : goal.invariant_of-self-in-Some
invariant_of-self-in-Some c =
    stopped_run _ _ _ _ _ _ _ c.self.invariant c.make_room.ensures.working c.in_ok-make_room.ensures.room c.stop_next.ensures.stops c.in-Some.is c.stop_next.ensures.seats

pub returns-in_ok-tell-in-Some-clause-course : goal.returns-in_ok-tell-in-Some-clause-course
returns-in_ok-tell-in-Some-clause-course c = λ plans moments came cares stood h.
    stopped_course plans moments came cares _ _ _ _ _ _ _ _ _ _ c.make_room.ensures.same c.stop_next.ensures.stops c.in-Some.is c.make_room.ensures.working.seats (subst (λ (r : RunNow). AllStoodLast moments r.worker) (sym c.self.view_is) stood) c.in_ok-tell-in-Some.ensures (subst (HasCourse plans moments came cares) (sym c.self.view_is) h)

pub returns-in-None-clause-course : goal.returns-in-None-clause-course
returns-in-None-clause-course c = λ plans moments came cares stood h.
    none_course plans moments came cares _ _ _ _ _ _ _ _ c.make_room.ensures.same c.stop_next.ensures.stops c.in-None.is (subst (HasCourse plans moments came cares) (sym c.self.view_is) h)

pub returns-in_ok-tell-in-Some-clause-stood : goal.returns-in_ok-tell-in-Some-clause-stood
returns-in_ok-tell-in-Some-clause-stood c = λ moments stood.
    others_still moments c.self.inside.worker _ c.stop_next.new.self _ _ _ _ c.make_room.ensures.same c.stop_next.ensures.stops c.in-Some.is (subst (λ (r : RunNow). AllStoodLast moments r.worker) (sym c.self.view_is) stood)

pub returns-in-None-clause-stood : goal.returns-in-None-clause-stood
returns-in-None-clause-stood c = λ moments stood.
    none_still moments c.self.inside.worker _ c.stop_next.new.self _ _ _ c.make_room.ensures.same c.stop_next.ensures.stops c.in-None.is (subst (λ (r : RunNow). AllStoodLast moments r.worker) (sym c.self.view_is) stood)
