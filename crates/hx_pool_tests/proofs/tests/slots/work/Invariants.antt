use Rattle.std.proofs.Common.{◌≡◌}
use Rattle.hx_pool_tests.proofs.tests.slots.work.Given as goal

abbrev pub invariant-loop-turn : goal.invariant-loop-turn
invariant-loop-turn g l = (g.S.HasHistory.history l.seat).about ≡ (g.S.HasHistory.history l.initial.seat).about
