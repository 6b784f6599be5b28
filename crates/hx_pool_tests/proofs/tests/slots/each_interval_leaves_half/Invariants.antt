use Rattle.std.proofs.Common.{◌≡◌}
use Rattle.hx_pool_tests.proofs.tests.slots.each_interval_leaves_half.Given as goal

abbrev pub invariant-loop-now : goal.invariant-loop-now
invariant-loop-now g l = l.seat.history.about.server ≡ record { 0 = 0 }
