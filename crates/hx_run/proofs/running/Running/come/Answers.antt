use Rattle.std.proofs.Common.{sym, subst, ap, ◌∙◌}
use Rattle.hx_link.specs.MemoryLinks.{MemoryLinkNow}
use Rattle.hx_run.specs.Courses.{HasCourse}
use Rattle.hx_run.proofs.Coursing.{admitted_course, attached_so}
use Rattle.hx_run.proofs.running.Running.come.Goals as goal

pub returns-in-Ok-clause-course : goal.returns-in-Ok-clause-course
returns-in-Ok-clause-course c = λ plans moments came cares h.
    let k = attached_so _ _ _ _ _ c.attach.ensures.attaches in
    let dial = k.1 ∙ ap (λ (m : MemoryLinkNow). m.state.dial) c.new-link.ensures.begins in
    let plan = k.2 ∙ ap (λ (m : MemoryLinkNow). m.state.plan) c.new-link.ensures.begins in
    admitted_course plans moments came cares _ _ _ _ c.args.line _ _ _ _ k.0 dial plan c.in-Ok.ensures.admits (subst (HasCourse plans moments came cares) (sym c.self.view_is) h)
