use Rattle.std.proofs.Common.{map}
use Rattle.hx_config.specs.Views.{meaning}
use Rattle.hx_pool.specs.Journal.{Journal}
use Rattle.hx_worker_tests.proofs.Begun.{begin_seats}
use Rattle.hx_worker_tests.proofs.tests.seats.plain_bench.Goals as goal

pub new-requires : goal.new-requires
new-requires c = record {
  seats = begin_seats (meaning c.args.config.now) (map (λ (j : Journal). j.history) c.in-Ok.seats.items) _ c.in-Ok.ensures.begin;
}
