use Rattle.std.proofs.Common.{◌≡◌, ◌<◌, ◌++◌, List, [], All, length, refl, sym, ap, subst, arith, ◌∙◌}
use Rattle.std.proofs.lemmas.Result.{err_from_is_err_and}
use Rattle.std.specs.Prelude.{Contains, reverse}
use Rattle.hx_base.specs.declared.numbers.Millis.{Millis}
use Rattle.hx_base.specs.declared.plan.Plan.{Plan}
use Rattle.hx_config.specs.Limits.{all_servers}
use Rattle.hx_config.specs.Meaning.{Meaning}
use Rattle.hx_config.specs.Views.{meaning}
use Rattle.hx_link.specs.MemoryNets.{IsPlan, MemoryNetNow}
use Rattle.hx_pool.specs.Journal.{Journal}
use Rattle.hx_run.specs.Dues.{AreDue}
use Rattle.hx_run.specs.Cares.{DueOrder, all_cares, cares_at, drains_below}
use Rattle.hx_run.specs.Overs.{AreOver, histories}
use Rattle.hx_link.specs.Nets.{NetState}
use Rattle.hx_record.specs.declared.served.Told.{Told}
use Rattle.hx_script_parts.specs.Views.{meaning as says}
use Rattle.hx_script_parts.specs.declared.script.ClientLine.{ClientLine}
use Rattle.hx_run.proofs.Coursing.{all_come}
use Rattle.hx_run.proofs.Ending.{ends_course, ends_planned, makes_all, makes_fewer, same_error}
use Rattle.hx_run.proofs.Working.{all_plans, all_due, run_over}
use Rattle.hx_run.proofs.Orders.{all_to_come}
use Rattle.hx_run.specs.Standings.{AllStoodLast}
use Rattle.hx_run.specs.Courses.{ComesIn, ComesUpTo, EndsCourse, EndsPlanned, HasCourse}
use Rattle.hx_run.specs.declared.due.Due.{Due}
use Rattle.hx_run.proofs.whole.run_script.Goals as goal

pub new-requires : goal.new-requires
new-requires c = record {
  plans = subst (λ (l : List Plan). All IsPlan l) (sym c.into_vec-plans.ensures)
      (all_plans (meaning c.args.script.config) c.args.script.plans c.args.script.within.plans_hold);
}

pub run_moments-requires : goal.run_moments-requires
run_moments-requires c =
    let script = c.args.script in record {
      empty = c.in_ok-running.ensures.empty.0;
      due = subst (λ (m : Meaning). AreDue m (record { clients = c.in_ok-clients_due.field-0; orders = c.in_ok-orders_due.field-0 })) (sym c.in_ok-running.ensures.config)
          (all_due (meaning script.config) script.config.within script.clients script.orders
          (record { clients = c.in_ok-clients_due.field-0; orders = c.in_ok-orders_due.field-0 })
          script.within.clients_hold script.within.orders_hold c.in_ok-clients_due.ensures.same c.in_ok-orders_due.ensures.same);
    }

pub returns-clause-over : goal.returns-clause-over
returns-clause-over c =
    let seats = c.in_ok-over.over.seats.items in
    let w = c.drain_all.new.self.worker in
    let over : AreOver (all_servers w.config.backs) seats = run_over w seats c.in_ok-over.ensures.run.working c.in_ok-drain_all.ensures.closed c.in_ok-over.ensures.seats c.in_ok-over.ensures.journals in
    let config : w.config ≡ meaning c.args.script.config =
    c.in_ok-drain_all.ensures.goes.config ∙ c.in_ok-stop_all.ensures.goes.config ∙ c.in_ok-run_moments.ensures.goes.config ∙ c.in_ok-running.ensures.config in
    subst (λ (l : List Journal). AreOver (all_servers c.args.script.config.backs) l) (sym c.from_vec-2.ensures)
    (subst (λ (m : Meaning). AreOver (all_servers m.backs) seats) config over)

-- the clients as they come
abbrev ordered : goal.After-drop-moments-inside-2 → List ClientLine
ordered c = reverse c.in_ok-clients_due.field-0.items

-- what is to come before the first moment
abbrev due : goal.After-drop-moments-inside-2 → Due
due c = record { clients = c.in_ok-clients_due.field-0; orders = c.in_ok-orders_due.field-0 }

followed : (c : goal.After-drop-moments-inside-2) → HasCourse c.args.script.plans c.args.script.moments (ordered c) (all_cares (says c.args.script)) c.drain_all.new.self
followed c =
    let script = c.args.script in
    let plans = script.plans in
    let moments = script.moments in
    let begun : HasCourse plans moments [] [] c.in_ok-running.running = subst (λ (l : List Plan). HasCourse l moments [] [] c.in_ok-running.running) c.into_vec-plans.ensures (c.in_ok-running.ensures.course moments) in
    let timely : All (λ (x : DueOrder). Contains moments x.0) c.in_ok-orders_due.field-0.items =
    subst (λ (l : List Millis). All (λ (x : DueOrder). Contains l x.0) c.in_ok-orders_due.field-0.items) c.as_slice-2.ensures
    (subst (λ (l : List DueOrder). All (λ (x : DueOrder). Contains c.as_slice-2.result.now x.0) l) c.as_slice.ensures.value c.in_ok-all_have_moments.ensures) in
    let comes : ComesIn moments moments [] c.in_ok-running.running (due c) c.run_moments.new.running c.run_moments.new.due =
    subst (λ (l : List Millis). ComesIn l l [] c.in_ok-running.running (due c) c.run_moments.new.running c.run_moments.new.due) c.as_slice-3.ensures c.in_ok-run_moments.ensures.course in
    let came : HasCourse plans moments (ordered c) (cares_at script.orders moments) c.run_moments.new.running =
    all_come plans moments (ordered c) c.run_moments.new.due.clients.items (cares_at script.orders moments) c.run_moments.new.running c.in_ok-all_came.ensures.none
    (comes plans (ordered c) script.orders script.within.rising (all_to_come script.orders c.in_ok-orders_due.field-0.items moments c.in_ok-orders_due.ensures.in_order timely) ([], refl, begun)).1 in
    let config : c.stop_all.new.self.worker.config ≡ meaning script.config =
    c.in_ok-stop_all.ensures.goes.config ∙ c.in_ok-run_moments.ensures.goes.config ∙ c.in_ok-running.ensures.config in
    subst (λ (m : Meaning). HasCourse plans moments (ordered c) (cares_at script.orders moments ++ drains_below (length (all_servers m.backs))) c.drain_all.new.self) config
    (c.in_ok-drain_all.ensures.course plans moments (ordered c) (cares_at script.orders moments) (c.in_ok-stop_all.ensures.course plans moments (ordered c) (cares_at script.orders moments)
    (subst (λ (l : List Millis). AllStoodLast l c.run_moments.new.running.worker) c.as_slice-3.ensures c.in_ok-run_moments.ensures.stood) came))

pub returns-clause-course : goal.returns-clause-course
returns-clause-course c =
    let end = c.drain_all.new.self in
    let ends : EndsCourse end.records end.net.state =
    ends_course c.args.script.plans c.args.script.moments (ordered c) (all_cares (says c.args.script)) end.worker end.net.state end.records end.turns c.in_ok-over.ensures.run.working c.in_ok-drain_all.ensures.empty c.in_ok-drain_all.ensures.closed (followed c) in
    let over = c.in_ok-over.ensures in
    let net : c.in_ok-over.over.net.state ≡ end.net.state = ap (λ (n : MemoryNetNow). n.state) over.net.0 in
    subst (λ (l : List Told). EndsCourse l c.in_ok-over.over.net.state) (sym (c.from_vec.ensures ∙ over.records))
    (subst (λ (n : NetState). EndsCourse end.records n) (sym net) ends)

pub returns-clause-plans : goal.returns-clause-plans
returns-clause-plans c =
    let end = c.drain_all.new.self in
    let clients = c.args.script.clients in
    let plans = c.args.script.plans in
    let ends : EndsPlanned clients plans end.records end.net.state =
    ends_planned clients (ordered c) plans c.args.script.moments (all_cares (says c.args.script)) end.worker end.net.state end.records end.turns c.in_ok-over.ensures.run.working c.in_ok-drain_all.ensures.empty c.in_ok-drain_all.ensures.closed c.in_ok-clients_due.ensures.in_order (followed c) in
    let over = c.in_ok-over.ensures in
    let net : c.in_ok-over.over.net.state ≡ end.net.state = ap (λ (n : MemoryNetNow). n.state) over.net.0 in
    subst (λ (l : List Told). EndsPlanned clients plans l c.in_ok-over.over.net.state) (sym (c.from_vec.ensures ∙ over.records))
    (subst (λ (n : NetState). EndsPlanned clients plans end.records n) (sym net) ends)

pub returns-clause-within : goal.returns-clause-within
returns-clause-within c =
    let end = c.drain_all.new.self in
    let script = c.args.script in
    let config : end.worker.config ≡ meaning script.config =
    c.in_ok-drain_all.ensures.goes.config ∙ c.in_ok-stop_all.ensures.goes.config ∙ c.in_ok-run_moments.ensures.goes.config ∙ c.in_ok-running.ensures.config in
    let few : end.turns < c.args.most =
    omega (arith, c.in_ok-run_moments.ensures.left, c.in_ok-run_moments.ensures.goes.most, c.in_ok-running.ensures.empty.3, c.in_ok-stop_all.ensures.turns, c.in_ok-drain_all.ensures.turns) in
    makes_fewer (says script) (ordered c) c.args.most _ c.in_ok-over.over.net.state _ end config c.in_ok-clients_due.ensures.in_order (followed c) c.in_ok-drain_all.ensures.empty
    (c.from_vec.ensures ∙ c.in_ok-over.ensures.records) (ap (λ (n : MemoryNetNow). n.state) c.in_ok-over.ensures.net.0) (ap histories c.from_vec-2.ensures ∙ c.in_ok-over.ensures.seats) few

pub returns-in_err-run_moments-clause-overrun : goal.returns-in_err-run_moments-clause-overrun
returns-in_err-run_moments-clause-overrun c =
    let script = c.args.script in
    let begun : HasCourse script.plans script.moments [] [] c.in_ok-running.running =
    subst (λ (l : List Plan). HasCourse l script.moments [] [] c.in_ok-running.running) c.into_vec-plans.ensures (c.in_ok-running.ensures.course script.moments) in
    let end = c.run_moments.new.running in
    let goes = c.run_moments.ensures.goes in
    let before : Due = record { clients = c.in_ok-clients_due.field-0; orders = c.in_ok-orders_due.field-0 } in
    let timely : All (λ (x : DueOrder). Contains script.moments x.0) c.in_ok-orders_due.field-0.items =
    subst (λ (l : List Millis). All (λ (x : DueOrder). Contains l x.0) c.in_ok-orders_due.field-0.items) c.as_slice-2.ensures
    (subst (λ (l : List DueOrder). All (λ (x : DueOrder). Contains c.as_slice-2.result.now x.0) l) c.as_slice.ensures.value c.in_ok-all_have_moments.ensures) in
    let p = err_from_is_err_and c.from_residual-in_err-run_moments.result c.from_residual-in_err-run_moments.ensures.1 in
    rw (p.1, p.2) (λ is.
    makes_all (says script) before c.run_moments.new.due c.args.most c.in_ok-running.running end script.within.rising c.in_ok-orders_due.ensures.in_order timely begun c.in_ok-clients_due.ensures.in_order
    (subst (λ (l : List Millis). ComesUpTo l c.in_ok-running.running before end c.run_moments.new.due) c.as_slice-3.ensures (c.in_err-run_moments.ensures.stops (same_error _ _ is))) (goes.config ∙ c.in_ok-running.ensures.config)
    (c.in_err-run_moments.ensures.overrun (same_error _ _ is) ∙ goes.most ∙ c.in_ok-running.ensures.empty.3))
