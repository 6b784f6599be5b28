use Rattle.std.proofs.Common.{◌-◌, ◌≤◌, length, map, take}
use Rattle.hx_config.specs.Limits.{all_servers}
use Rattle.hx_pool.specs.Journal.{Journal}
use Rattle.hx_worker_tests.specs.Begins.{BeginFor}
use Rattle.hx_worker_tests.proofs.tests.seats.seats_of.Given as goal

abbrev pub invariant-loop-server : goal.invariant-loop-server
invariant-loop-server l =
    (l.at ≤ length (all_servers l.fn.config.backs))
    × BeginFor (take l.at (all_servers l.fn.config.backs)) (map (λ (j : Journal). j.history) l.seats.items)

abbrev pub decreases-loop-server : goal.decreases-loop-server
decreases-loop-server l = length (all_servers l.fn.config.backs) - l.at
