use Rattle.std.proofs.Common.{◌≡◌}
use Rattle.hx_pool_tests.proofs.tests.slots.drain_some.Given as goal

abbrev pub invariant-loop : goal.invariant-loop
invariant-loop g l = (g.S.HasHistory.history l.seat).about ≡ (g.S.HasHistory.history l.initial.seat).about
