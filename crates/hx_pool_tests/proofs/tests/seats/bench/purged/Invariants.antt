use Rattle.hx_pool.specs.Purge.{StandsAt}
use Rattle.hx_pool_tests.proofs.tests.seats.bench.purged.Given as goal

abbrev pub invariant-loop-gone : goal.invariant-loop-gone
invariant-loop-gone l = StandsAt l.seat.history.about l.quota
