use Rattle.std.proofs.Common.{◌≡◌}
use Rattle.hx_pool_tests.proofs.tests.slots.park_some.Given as goal

abbrev pub invariant-loop : goal.invariant-loop
invariant-loop l = l.seat.history.about ≡ l.initial.seat.history.about
