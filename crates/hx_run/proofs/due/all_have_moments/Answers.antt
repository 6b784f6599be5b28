use Rattle.std.proofs.Common.{List, All, subst}
use Rattle.std.specs.Prelude.{Contains}
use Rattle.std.proofs.lemmas.List.Elements.{All-more}
use Rattle.hx_run.proofs.Orders.{drop_all}
use Rattle.hx_run.specs.Cares.{DueOrder}
use Rattle.hx_run.proofs.due.all_have_moments.Goals as goal

pub loop-order-preserved : goal.loop-order-preserved
loop-order-preserved c =
    All-more (λ (x : DueOrder). Contains c.args.moments.now x.0) c.args.orders.now c.loop-order.order-index _ c.loop-order-test.true c.loop-order.invariant
    (c.is_among.ensures c.if-not-is_among.false)

pub returns : goal.returns
returns c =
    subst (λ (l : List DueOrder). All (λ (x : DueOrder). Contains c.args.moments.now x.0) l) (drop_all c.args.orders.now c.loop-order.order-index c.loop-order-test.false).0
    c.loop-order.invariant
