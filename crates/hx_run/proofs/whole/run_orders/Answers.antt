use Rattle.std.proofs.Common.{sym, subst, ◌∙◌}
use Rattle.hx_config.specs.Meaning.{Meaning}
use Rattle.hx_run.specs.Dues.{IsThere}
use Rattle.hx_run.proofs.Coursing.{obeys_next}
use Rattle.hx_run.proofs.Working.{goes_both}
use Rattle.hx_run.proofs.whole.run_orders.Goals as goal

pub order-requires-in-Some : goal.order-requires-in-Some
order-requires-in-Some c = record {
  there = subst (λ (m : Meaning). IsThere m c.in-Some.what) (sym c.loop-what.invariant.0.config)
      (c.in-Some.ensures.order c.args.running.now.worker.config c.loop-what.invariant.1);
}

pub loop-what-preserved : goal.loop-what-preserved
loop-what-preserved c = (
  goes_both c.args.running.now c.loop-what.running c.order-in-Some.new.self c.loop-what.invariant.0 c.order-in-Some.ensures.goes,
  c.order.ensures.due c.args.running.now.worker.config c.loop-what.invariant.1,
  obeys_next c.args.now c.args.running.now c.loop-what.running c.order-in-Some.new.self c.args.due.now.orders.items c.loop-what.due.orders.items c.order.new.self.orders.items c.in-Some.what
      c.in-Some.ensures.next c.loop-what.invariant.2 c.in_ok-order.ensures.course,
  c.order.ensures.clients ∙ c.loop-what.invariant.3,
  c.order-in-Some.ensures.turns ∙ c.loop-what.invariant.4,
)

pub returns-in_err-order-clause-due : goal.returns-in_err-order-clause-due
returns-in_err-order-clause-due c = c.order.ensures.due c.args.running.now.worker.config c.loop-what.invariant.1

pub returns-clause-due : goal.returns-clause-due
returns-clause-due c = c.order.ensures.due c.args.running.now.worker.config c.loop-what.invariant.1
