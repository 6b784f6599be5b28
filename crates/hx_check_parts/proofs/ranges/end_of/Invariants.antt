use Rattle.std.proofs.Common.{◌↔◌, ℕ, drop}
use Rattle.hx_base.specs.Spans.{AreContiguous}
use Rattle.hx_check_parts.specs.Ranges.{ranges_of}
use Rattle.hx_check_parts.proofs.ranges.end_of.Given as goal

abbrev pub invariant-loop-told : goal.invariant-loop-told
invariant-loop-told l =
    (to : ℕ) → AreContiguous 0 (ranges_of l.side l.t l.n l.records) to
    ↔ AreContiguous l.end (ranges_of l.side l.t l.n (drop l.told-index l.records)) to
