use Rattle.std.proofs.Common.{◌-◌, ◌≤◌, length, map, take}
use Rattle.hx_config.specs.Limits.{all_servers}
use Rattle.hx_purge.specs.Slots.{SlotView}
use Rattle.hx_serve.specs.Begins.{BeginFor}
use Rattle.hx_serve.proofs.seating.seats_of.Given as goal

abbrev pub invariant-loop-server : goal.invariant-loop-server
invariant-loop-server g l =
    (l.at ≤ length (all_servers l.fn.config.backs))
    × BeginFor l.fn.thread (take l.at (all_servers l.fn.config.backs)) (map (λ (s : SlotView). s.history) l.seats.items)

abbrev pub decreases-loop-server : goal.decreases-loop-server
decreases-loop-server g l = length (all_servers l.fn.config.backs) - l.at
