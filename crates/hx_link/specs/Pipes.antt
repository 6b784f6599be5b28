-- What a pipe is to a contract.
use Rattle.std.specs.Prelude.{ℕ, List, take, drop}

-- its bytes in order, and how many it can hold
pub record PipeNow : Type 0 where
  pub bytes : List ℕ
  pub capacity : ℕ

-- a pipe with these bytes and this capacity
abbrev pub pipe : List ℕ → ℕ → PipeNow
pipe bytes capacity = record { bytes = bytes; capacity = capacity }

-- the pipe's bytes in its memory
abbrev pub held_in : ℕ → ℕ → List ℕ → List ℕ
held_in start len memory = take len (drop start memory)
