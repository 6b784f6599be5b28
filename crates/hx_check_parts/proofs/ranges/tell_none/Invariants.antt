use Rattle.std.proofs.Common.{◌≡◌, drop}
use Rattle.hx_check_parts.specs.Ranges.{ranges_of}
use Rattle.hx_check_parts.proofs.ranges.tell_none.Given as goal

abbrev pub invariant-loop-told : goal.invariant-loop-told
invariant-loop-told l =
    ranges_of l.side l.t l.n (drop l.told-index l.records) ≡ ranges_of l.side l.t l.n l.records
