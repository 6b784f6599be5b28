use Rattle.std.proofs.Common.{sym, subst}
use Rattle.hx_handoff.specs.Lanes.{IsInOrder}
use Rattle.hx_handoff.proofs.Steps.{collects, all_held, order_of_all}
use Rattle.hx_handoff.proofs.taker.Taker.collect.Goals as goal

pub pop_as-requires-clause-rule : goal.pop_as-requires-clause-rule
pop_as-requires-clause-rule g c = (collects _ _ c.self.invariant.takes, all_held _ _ c.self.invariant.takes)

pub returns-in_err-handed-clause-order : goal.returns-in_err-handed-clause-order
returns-in_err-handed-clause-order g c =
    let rule = c.in_err-handed.ensures.rule in
    subst (λ v. IsInOrder v.collected v.settled) (sym rule.0) (order_of_all _ rule.1.0 _ rule.1.2)

pub returns-clause-collected : goal.returns-clause-collected
returns-clause-collected g c =
    let e = c.in_ok-handed.ensures in
    let x = c.in_ok-handed.handed in (
      x.giver,
      rw (← c.self.invariant.both) e.rule.2,
      rw (← c.self.view_is) (λ i. record {
        lane = e.queue.0 i;
        collected = (e.rule.0 i).collected;
        settled = (e.rule.0 i).settled;
      }),
    )
