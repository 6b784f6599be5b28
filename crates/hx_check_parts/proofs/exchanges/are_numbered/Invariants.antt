use Rattle.std.proofs.Common.{ℕ, ◌+◌, ◌<◌}
use Rattle.std.specs.Prelude.{IsSome}
use Rattle.hx_check_parts.specs.Tiling.{exchanges_of, numbered}
use Rattle.hx_check_parts.proofs.exchanges.are_numbered.Given as goal

abbrev pub invariant-loop-k : goal.invariant-loop-k
invariant-loop-k l = (k : ℕ) → k < l.k → IsSome (numbered (k + 1) (exchanges_of l.records l.conn))
