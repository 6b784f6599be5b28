use Rattle.std.proofs.Common.{◌≡◌, drop}
use Rattle.hx_check_parts.specs.Tiling.{exchanges_of, numbered}
use Rattle.hx_check_parts.proofs.exchanges.numbered_among.Given as goal

abbrev pub invariant-loop-told : goal.invariant-loop-told
invariant-loop-told l =
    numbered l.number (exchanges_of (drop l.told-index l.records) l.conn) ≡ numbered l.number (exchanges_of l.records l.conn)
