use Rattle.std.proofs.Common.{◌≡◌}
use Rattle.hx_pool.specs.Purge.{StandsAt}
use Rattle.hx_pool_tests.proofs.tests.callers.purged.Given as goal

abbrev pub invariant-loop-gone : goal.invariant-loop-gone
invariant-loop-gone g l = record {
  stands : StandsAt (g.S.HasHistory.history l.seat).about l.quota;
  about : (g.S.HasHistory.history l.seat).about ≡ (g.S.HasHistory.history l.initial.seat).about;
}
