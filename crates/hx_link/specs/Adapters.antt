-- What a reader and a writer of std are to a contract, by what std tells of them.
use Rattle.std.specs.Prelude.{ℕ, List, Option, None, false, take}
use Rattle.std.specs.Io.KnownBytes.{Consumes, Appends, Keeps, IsAtEnd}
use Rattle.hx_link.specs.declared.answers.Got.{Got}
use Rattle.hx_link.specs.declared.answers.Put.{Put}
use Rattle.hx_link.specs.declared.answers.Got.TheVariants as got
use Rattle.hx_link.specs.declared.answers.Put.TheVariants as put
use Rattle.hx_link.specs.Told.{SourceState, SinkState}

-- a reader as a source, and what std knows of it
pub record ReadingNow : Type 0 where
  pub state : SourceState
  -- the bytes that the reader will give, where std knows them
  pub left : Option (List ℕ)

-- a writer as a sink, and what std knows of it
pub record WritingNow : Type 0 where
  pub state : SinkState
  -- the bytes that the writer holds, where std knows them
  pub held : Option (List ℕ)

-- before its first call it tells nothing of its bytes
abbrev pub new_reading : Option (List ℕ) → ReadingNow
new_reading left = record { state = record { faults = 0; left = None; told_end = false }; left = left }

-- a writer from which no fault came yet
abbrev pub new_writing : Option (List ℕ) → WritingNow
new_writing held = record { state = record { faults = 0; taken = None }; held = held }

-- where std knows the reader's bytes, those that are given were the first of them, the end is told only behind the last,
-- and a fault loses none
abbrev pub ReadingReads : ReadingNow → ReadingNow → Got → List ℕ → Type 0
ReadingReads old new (got.Bytes n) into = Consumes old.left new.left (take n into)
ReadingReads old new got.NotYet into = ⊥
ReadingReads old new got.End into = Keeps old.left new.left × IsAtEnd new.left
ReadingReads old new got.Failed into = Keeps old.left new.left

-- where std knows the writer's bytes, those that are taken stand at their end, and a fault adds none
abbrev pub WritingWrites : WritingNow → WritingNow → Put → List ℕ → Type 0
WritingWrites old new (put.Bytes n) bytes = Appends old.held new.held (take n bytes)
WritingWrites old new put.NotYet bytes = ⊥
WritingWrites old new put.Failed bytes = Keeps old.held new.held
