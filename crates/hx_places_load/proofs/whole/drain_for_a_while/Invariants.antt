use Rattle.std.proofs.Common.{◌≡◌}
use Rattle.hx_places_load.proofs.whole.drain_for_a_while.Given as goal

abbrev pub invariant-loop : goal.invariant-loop
invariant-loop g l = (g.S.HasHistory.history l.seat).about ≡ (g.S.HasHistory.history l.initial.seat).about
