use Rattle.std.proofs.Common.{◌+◌, below_more, rules}
use Rattle.std.specs.Prelude.{IsSome}
use Rattle.hx_check_parts.specs.Tiling.{exchanges_of, numbered}
use Rattle.hx_check_parts.proofs.exchanges.are_numbered.Goals as goal

pub loop-k-preserved : goal.loop-k-preserved
loop-k-preserved c =
    below_more (λ k. IsSome (numbered (k + 1) (exchanges_of c.args.records.now c.args.conn.now))) c.loop-k.k c.loop-k.invariant
    (c.has_number.ensures.0 (search rules))
