use Rattle.std.proofs.Common.{◌+◌, ℕ, sym, subst, ◌∙◌}
use Rattle.hx_run.specs.Overs.{ClosedBelow}
use Rattle.hx_run.proofs.Working.{on_ok_map, drained_next}
use Rattle.hx_run.proofs.running.Running.drain.Goals as goal

pub returns-clause-closed : goal.returns-clause-closed
returns-clause-closed c k e below =
    on_ok_map c.order.result
    (λ carried. subst (λ (m : ℕ). ClosedBelow (m + 1) c.order.new.self.worker.seats) (sym e)
    (drained_next c.args.self.now.worker c.order.new.self.worker c.args.server c.order.ensures.run.0.working c.order.ensures.run.1.working
    (c.order.ensures.sessions ∙ c.requires.empty) carried
    (subst (λ (m : ℕ). ClosedBelow m c.args.self.now.worker.seats) e below)))
    c.order.ensures.carries
