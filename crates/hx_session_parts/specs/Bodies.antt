-- Bodies that pass from pipe to pipe.
use Rattle.std.specs.Prelude.{ℕ, ◌-◌, List, length, take}
use Rattle.hx_link.specs.Pipes.{PipeNow}

-- the bytes at hand that fit into the other pipe
abbrev pub piece_at : PipeNow → PipeNow → List ℕ
piece_at from to = take (to.capacity - length to.bytes) from.bytes
