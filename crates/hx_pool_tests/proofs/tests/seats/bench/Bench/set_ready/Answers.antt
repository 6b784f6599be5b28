use Rattle.std.proofs.Common.{ap, ◌∙◌}
use Rattle.hx_pool.specs.SeatView.{About}
use Rattle.hx_pool_tests.proofs.tests.seats.bench.Bench.set_ready.Goals as goal

pub invariant_of-self : goal.invariant_of-self
invariant_of-self c = record { ours = ap (λ (a : About). a.server) c.set_ready.ensures.answer.makes.about ∙ c.args.self.now.ours }
