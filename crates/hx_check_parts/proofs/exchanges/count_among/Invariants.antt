use Rattle.std.proofs.Common.{◌≡◌, ◌+◌, ◌≤◌, drop, length}
use Rattle.hx_check_parts.specs.Tiling.{exchanges_of}
use Rattle.hx_check_parts.proofs.exchanges.count_among.Given as goal

abbrev pub invariant-loop-told : goal.invariant-loop-told
invariant-loop-told l =
    (l.count + length (exchanges_of (drop l.told-index l.records) l.conn) ≡ length (exchanges_of l.records l.conn))
    × (l.count ≤ l.told-index)
