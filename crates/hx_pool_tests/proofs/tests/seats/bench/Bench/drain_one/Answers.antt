use Rattle.std.proofs.Common.{ap, ◌∙◌}
use Rattle.hx_pool.specs.SeatView.{About}
use Rattle.hx_pool_tests.proofs.SeatCalls.{drain_about}
use Rattle.hx_pool_tests.proofs.tests.seats.bench.Bench.drain_one.Goals as goal

pub invariant_of-self : goal.invariant_of-self
invariant_of-self c = record { ours = ap (λ (a : About). a.server) (drain_about _ _ _ c.drain_next.result c.drain_next.ensures.answer) ∙ c.args.self.now.ours }
