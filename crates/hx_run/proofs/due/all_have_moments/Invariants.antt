use Rattle.std.proofs.Common.{All, take}
use Rattle.std.specs.Prelude.{Contains}
use Rattle.hx_run.specs.Cares.{DueOrder}
use Rattle.hx_run.proofs.due.all_have_moments.Given as goal

abbrev pub invariant-loop-order : goal.invariant-loop-order
invariant-loop-order l = All (λ (x : DueOrder). Contains l.moments x.0) (take l.order-index l.orders)
