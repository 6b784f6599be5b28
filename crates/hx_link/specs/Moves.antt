-- Bytes that move between a link and a pipe.
use Rattle.std.specs.Prelude.{◌≡◌, ℕ, ◌-◌, min, List, ◌++◌, length, take, drop}
use Rattle.hx_link.specs.declared.answers.Got.{Got}
use Rattle.hx_link.specs.declared.answers.Put.{Put}
use Rattle.hx_link.specs.declared.answers.Got.TheVariants as got
use Rattle.hx_link.specs.declared.answers.Put.TheVariants as put
use Rattle.hx_link.specs.Told.{LinkState}
use Rattle.hx_link.specs.Links.{LinkReads, LinkWrites}
use Rattle.hx_link.specs.Pipes.{PipeNow, pipe}

-- the most bytes of one read
abbrev pub most_read : ℕ
most_read = 18432

-- how many bytes a read asks for, where the pipe has so much room
abbrev pub read_room : PipeNow → ℕ
read_room p = min (p.capacity - length p.bytes) most_read

-- how many bytes a read gave, and how many a write took
abbrev pub got_count : Got → ℕ
got_count (got.Bytes n) = n
got_count got.NotYet = 0
got_count got.End = 0
got_count got.Failed = 0

-- how many bytes a write took
abbrev pub put_count : Put → ℕ
put_count (put.Bytes n) = n
put_count put.NotYet = 0
put_count put.Failed = 0

-- one read of the link; what it gave stands at the pipe's end
pub record ReadsInto (old new : LinkState) (now : ℕ) (before after : PipeNow) (result : Got) : Type 0 where
  pub into : List ℕ
  pub size : length into ≡ read_room before
  pub reads : LinkReads old new now result into
  pub gains : after ≡ pipe (before.bytes ++ take (got_count result) into) before.capacity

-- one write to the link; what it took is gone from the pipe's front
abbrev pub WritesFrom : LinkState → LinkState → ℕ → PipeNow → PipeNow → Put → Type 0
WritesFrom old new now before after result =
    LinkWrites old new now result before.bytes × (after ≡ pipe (drop (put_count result) before.bytes) before.capacity)
