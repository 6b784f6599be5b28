use Rattle.std.proofs.Common.{◌≡◌, Some, None, refl, sym, ap, subst, arith, ◌∙◌}
use Rattle.hx_run.specs.Courses.{HasCourse}
use Rattle.hx_run.proofs.Standing.{stood_none, stood_next, stood_all, none_more}
use Rattle.hx_run.proofs.Working.{goes_both}
use Rattle.hx_run.specs.Runs.{RunNow}
use Rattle.hx_run.specs.Standings.{AllStood, Rise}
use Rattle.hx_worker.specs.Admitting.{next_above}
use Rattle.hx_run.proofs.running.Running.round.Goals as goal

pub loop-n-init : goal.loop-n-init
loop-n-init c = (record { config = refl; most = refl; turns = omega arith }, λ plans moments came cares at h. h, λ few. few, stood_none c.args.now c.args.self.now)

pub loop-n-preserved : goal.loop-n-preserved
loop-n-preserved c = (
  goes_both c.args.self.now c.loop-n.self c.go_on.new.self c.loop-n.invariant.0 c.go_on.ensures.goes,
  λ plans moments came cares at h. c.in_ok-go_on.ensures.course plans moments came cares at (c.loop-n.invariant.1 plans moments came cares at h),
  λ few. c.in_ok-go_on.ensures.left,
  stood_next c.args.now c.args.self.now c.loop-n.self c.go_on.new.self c.loop-n.after.0 c.in-Some.n c.loop-n.invariant.0.turns c.go_on.ensures.goes.turns (subst (λ (r : RunNow). Rise r.worker) c.self-in-loop-n.view_is c.next_session.ensures.sound.rise)
      (subst (λ (r : RunNow). next_above r.worker.sessions c.loop-n.after.0 ≡ Some c.in-Some.n) c.self-in-loop-n.view_is (sym c.next_session.ensures.next ∙ c.in-Some.is)) c.loop-n.invariant.3 c.in_ok-go_on.ensures.stood,
)

pub returns-clause-course : goal.returns-clause-course
returns-clause-course c = λ plans moments came cares at h. subst (HasCourse plans moments came cares) (sym c.self-2.view_is) (c.loop-n.invariant.1 plans moments came cares at h)

pub returns-clause-stood : goal.returns-clause-stood
returns-clause-stood c = λ last.
    let before : c.self.inside.turns ≡ c.args.self.now.turns = ap (λ (r : RunNow). r.turns) c.self.view_is in
    let behind : c.self-2.inside.turns ≡ c.loop-n.self.turns = ap (λ (r : RunNow). r.turns) c.self-2.view_is in
    let rises = c.loop-n.invariant.0.turns in
    let none : c.self-2.inside.turns ≡ c.self.inside.turns = none_more c.self.inside.turns c.self-2.inside.turns (omega (arith, before, behind, rises)) last in
    subst (λ (r : RunNow). AllStood c.args.now r.worker) (sym c.self-2.view_is)
    (stood_all c.args.now c.args.self.now c.loop-n.self c.loop-n.after.0 (sym behind ∙ (none ∙ before)) (subst (λ (r : RunNow). Rise r.worker) c.self-in-loop-n.view_is c.next_session.ensures.sound.rise)
    (subst (λ (r : RunNow). next_above r.worker.sessions c.loop-n.after.0 ≡ None) c.self-in-loop-n.view_is (sym c.next_session.ensures.next ∙ c.in_default.is)) c.loop-n.invariant.3)
