-- What a pipe holds once the bytes that it lent are given back.
use Rattle.std.specs.Prelude.{ℕ, List, ◌++◌, length}
use Rattle.std.specs.Borrow.{Fml, MutBor, Array, Lends, u8}
use Rattle.std.specs.List.{refill}
use Rattle.hx_link.specs.Pipes.{PipeNow, pipe}
use Rattle.hx_link.specs.contracts.pipe.Pipe.{the_row}

-- behind the bytes that it held those that were lent, as they were left
abbrev pub lends_more : MutBor PipeNow → MutBor (List ℕ) → Fml
lends_more p r =
    Lends the_row (Array u8 0) p r (λ ws. pipe (p.now.bytes ++ refill (length r.now) r.now ws) p.now.capacity)
