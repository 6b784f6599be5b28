use Rattle.std.proofs.Common.{sym, subst}
use Rattle.hx_handoff.specs.Lanes.{IsInOrder}
use Rattle.hx_handoff.proofs.Steps.{settles, order_of_all}
use Rattle.hx_handoff.proofs.taker.Taker.settle.Goals as goal

pub absorb-requires-clause-rule : goal.absorb-requires-clause-rule
absorb-requires-clause-rule g c = settles _ _ _ _ c.self.invariant.takes c.giver.invariant.gives

pub returns-clause-order : goal.returns-clause-order
returns-clause-order g c =
    let learned = c.learn_as.ensures.rule in
    subst (λ v. IsInOrder v.collected v.settled) (sym c.learn_as.ensures.queue.1) (order_of_all _ learned.0 _ learned.1)
