use Rattle.std.proofs.Common.{List, sym, subst, ◌∙◌}
use Rattle.hx_script_parts.specs.declared.script.ClientLine.{ClientLine}
use Rattle.hx_run.specs.Courses.{ComesAll}
use Rattle.hx_run.proofs.Coursing.{comes_both, comes_next}
use Rattle.hx_run.proofs.Working.{goes_both}
use Rattle.hx_run.proofs.whole.run_clients.Goals as goal

pub loop-line-preserved : goal.loop-line-preserved
loop-line-preserved c = (
  goes_both c.args.running.now c.loop-line.running c.come.new.self c.loop-line.invariant.0 c.come.ensures.goes,
  c.client.ensures.due c.args.running.now.worker.config c.loop-line.invariant.1,
  c.client.ensures.orders ∙ c.loop-line.invariant.2,
  comes_both c.args.running.now c.loop-line.running c.come.new.self c.args.due.now.clients.items c.loop-line.due.clients.items c.client.new.self.clients.items c.loop-line.invariant.3
      (comes_next c.loop-line.running c.come.new.self c.loop-line.due.clients.items c.client.new.self.clients.items c.in-Some.line c.in-Some.ensures.next c.in_ok-come.ensures.course),
  c.come.ensures.turns ∙ c.loop-line.invariant.4,
)

pub returns-in_err-come-clause-due : goal.returns-in_err-come-clause-due
returns-in_err-come-clause-due c = c.client.ensures.due c.args.running.now.worker.config c.loop-line.invariant.1

pub returns-clause-due : goal.returns-clause-due
returns-clause-due c = c.client.ensures.due c.args.running.now.worker.config c.loop-line.invariant.1

pub returns-clause-course : goal.returns-clause-course
returns-clause-course c =
    subst (λ (l : List ClientLine). ComesAll c.args.running.now c.args.due.now.clients.items c.loop-line.running l)
    (sym c.in_default.ensures.none) c.loop-line.invariant.3
