use Rattle.std.proofs.Common.{◌≡◌, length}
use Rattle.hx_config.specs.Limits.{all_servers}
use Rattle.hx_loop.proofs.hand.Hand.add_totals.Given as goal

abbrev pub invariant-loop-at : goal.invariant-loop-at
invariant-loop-at g l = length l.worker.seats ≡ length (all_servers l.config.backs)
