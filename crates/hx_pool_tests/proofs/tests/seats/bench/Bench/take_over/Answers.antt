use Rattle.std.proofs.Common.{ap, ◌∙◌}
use Rattle.hx_pool.specs.SeatView.{About}
use Rattle.hx_pool_tests.proofs.SeatCalls.{over_about}
use Rattle.hx_pool_tests.proofs.tests.seats.bench.Bench.take_over.Goals as goal

pub invariant_of-self : goal.invariant_of-self
invariant_of-self c = record { ours = ap (λ (a : About). a.server) (over_about _ _ _ _ _ c.take_over.result c.take_over.ensures.answer) ∙ c.args.self.now.ours }
