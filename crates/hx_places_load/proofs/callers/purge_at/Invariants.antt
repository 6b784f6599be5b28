use Rattle.std.proofs.Common.{◌≡◌}
use Rattle.hx_pool.specs.Purge.{StandsAt}
use Rattle.hx_places_load.proofs.callers.purge_at.Given as goal

abbrev pub invariant-loop : goal.invariant-loop
invariant-loop g l = record {
  stands : StandsAt (g.S.HasHistory.history l.seat).about l.quota;
  about : (g.S.HasHistory.history l.seat).about ≡ (g.S.HasHistory.history l.initial.seat).about;
}
