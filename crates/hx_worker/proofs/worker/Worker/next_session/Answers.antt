use Rattle.std.proofs.Common.{Option, ℕ, sym, ap, ◌∙◌}
use Rattle.std.specs.Prelude.{option_map}
use Rattle.hx_worker.specs.Workers.{WorkerNow}
use Rattle.hx_worker.specs.Admitting.{next_above}
use Rattle.hx_worker.proofs.Items.{numbered, above_is}
use Rattle.hx_worker.proofs.worker.Worker.next_session.Goals as goal

pub returns-in-Some-clause-next : goal.returns-in-Some-clause-next
returns-in-Some-clause-next g c =
    let i = c.self.inside in
    ap (λ (o : Option ℕ). option_map numbered o) c.in-Some.ensures
    ∙ (sym (above_is i.sessions.items c.args.after.0 c.self.invariant.under)
    ∙ ap (λ (w : WorkerNow). next_above w.sessions c.args.after.0) c.self.view_is)

pub returns-in-None-clause-next : goal.returns-in-None-clause-next
returns-in-None-clause-next g c =
    let i = c.self.inside in
    ap (λ (o : Option ℕ). option_map numbered o) c.in-None.ensures
    ∙ (sym (above_is i.sessions.items c.args.after.0 c.self.invariant.under)
    ∙ ap (λ (w : WorkerNow). next_above w.sessions c.args.after.0) c.self.view_is)
