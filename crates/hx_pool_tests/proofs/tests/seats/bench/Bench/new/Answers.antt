use Rattle.std.proofs.Common.{ap}
use Rattle.hx_pool.specs.SeatView.{About}
use Rattle.hx_pool_tests.proofs.tests.seats.bench.Bench.new.Goals as goal

pub invariant_of-result : goal.invariant_of-result
invariant_of-result c = record { ours = ap (λ (a : About). a.server) c.in_ok-seat.ensures.board }
