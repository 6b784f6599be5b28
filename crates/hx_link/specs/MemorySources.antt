-- What the source and the sink in memory are to a contract, and exactly when each of their answers comes.
use Rattle.std.specs.Prelude.{◌≡◌, ◌⊎◌, ℕ, ◌+◌, ◌-◌, ◌^◌, ◌<◌, min, false, List, [], length, Some, IfSome, Contains}
use Rattle.hx_link.specs.Told.{SourceState, SinkState}
use Rattle.hx_link.specs.declared.answers.Got.{Got}
use Rattle.hx_link.specs.declared.answers.Put.{Put}
use Rattle.hx_link.specs.declared.answers.Got.TheVariants as got
use Rattle.hx_link.specs.declared.answers.Put.TheVariants as put

-- a source in memory, as contracts see it
pub record MemorySourceNow : Type 0 where
  pub state : SourceState
  -- which calls fail, counted from 1, and how many were made
  pub fails : List ℕ
  pub calls : ℕ

-- a sink in memory, as contracts see it
pub record MemorySinkNow : Type 0 where
  pub state : SinkState
  -- how many bytes it takes in all
  pub room : ℕ
  pub fails : List ℕ
  pub calls : ℕ

-- a source of these bytes before its first call
abbrev pub new_source : List ℕ → List ℕ → MemorySourceNow
new_source bytes fails = record {
  state = record { faults = 0; left = Some bytes; told_end = false };
  fails = fails;
  calls = 0;
}

-- a sink of this room before its first call
abbrev pub new_sink : ℕ → List ℕ → MemorySinkNow
new_sink room fails = record {
  state = record { faults = 0; taken = Some [] };
  room = room;
  fails = fails;
  calls = 0;
}

-- the number of the next call, which stands still at its type's end
abbrev pub next_call : ℕ → ℕ
next_call calls = min (calls + 1) (2 ^ 64 - 1)

-- the next call is one of those that fail
abbrev pub IsNamed : List ℕ → ℕ → Type 0
IsNamed fails calls = Contains fails (next_call calls)

-- a read fails exactly where its call is named; else it ends where nothing is left, and gives what fits where something is
abbrev pub SourceAnswers : MemorySourceNow → List ℕ → ℕ → Got → Type 0
SourceAnswers s left room (got.Bytes n) = (IsNamed s.fails s.calls → ⊥) × (0 < length left) × (n ≡ min room (length left))
SourceAnswers s left room got.NotYet = ⊥
SourceAnswers s left room got.End = (IsNamed s.fails s.calls → ⊥) × (left ≡ [])
SourceAnswers s left room got.Failed = IsNamed s.fails s.calls

-- a read is counted, and answers as said
pub record MemorySourceReads (old new : MemorySourceNow) (room : ℕ) (result : Got) : Type 0 where
  pub fails : new.fails ≡ old.fails
  pub calls : new.calls ≡ next_call old.calls
  pub answers : IfSome old.state.left (λ left. SourceAnswers old left room result)

-- the room that is left where these bytes were taken
abbrev pub room_left : MemorySinkNow → List ℕ → ℕ
room_left s taken = s.room - length taken

-- a write fails exactly where its call is named or no room is left, and else takes what fits
abbrev pub SinkAnswers : MemorySinkNow → List ℕ → ℕ → Put → Type 0
SinkAnswers s taken count (put.Bytes n) =
    (IsNamed s.fails s.calls → ⊥) × (0 < room_left s taken) × (n ≡ min count (room_left s taken))
SinkAnswers s taken count put.NotYet = ⊥
SinkAnswers s taken count put.Failed = IsNamed s.fails s.calls ⊎ (room_left s taken ≡ 0)

-- a write is counted, and answers as said
pub record MemorySinkWrites (old new : MemorySinkNow) (count : ℕ) (result : Put) : Type 0 where
  pub fails : new.fails ≡ old.fails
  pub room : new.room ≡ old.room
  pub calls : new.calls ≡ next_call old.calls
  pub answers : IfSome old.state.taken (λ taken. SinkAnswers old taken count result)
