use Rattle.std.proofs.Common.{◌≡◌, ℕ, ◌+◌, ◌<◌}
use Rattle.std.specs.Prelude.{IfSome}
use Rattle.hx_check_parts.specs.Tiling.{exchanges_of, numbered, end_of}
use Rattle.hx_check_parts.specs.Ways.{range_on}
use Rattle.hx_check_parts.proofs.exchanges.follow.Given as goal

abbrev pub invariant-loop-k : goal.invariant-loop-k
invariant-loop-k l = record {
  last : l.last ≡ numbered l.k (exchanges_of l.records l.conn);
  below :
      (k : ℕ) → k < l.k
      → IfSome (numbered (k + 1) (exchanges_of l.records l.conn))
      (λ c. (range_on l.way c).from ≡ end_of (range_on l.way) (numbered k (exchanges_of l.records l.conn)));
}
