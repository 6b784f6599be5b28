-- What a cabinet in memory is to a contract, and exactly what each of its calls does.
use Rattle.std.specs.Prelude.{◌≡◌, ℕ, false, List, [], Option, Some, None, map, All, Result, Ok, Err}
use Rattle.hx_link.specs.Told.{SourceState}
use Rattle.hx_link.specs.MemorySources.{MemorySourceNow, new_source}
use Rattle.hx_doors.specs.declared.cabinet.NoFile.{NoFile}
use Rattle.hx_doors.specs.Cabinets.{CabinetState, NamesOther, TakesFirst}

-- a cabinet in memory, as contracts see it
pub record MemoryCabinetNow : Type 0 where
  pub state : CabinetState
  -- the files that weren't handed out yet, in order
  pub files : List (List ℕ × MemorySourceNow)

-- a source of which nothing was read
abbrev pub IsUnread : MemorySourceNow → Type 0
IsUnread s = (bytes : List ℕ) × (fails : List ℕ) × (s ≡ new_source bytes fails)

-- the bytes that a source has left, where it tells them
abbrev pub bytes_of : Option (List ℕ) → List ℕ
bytes_of None = []
bytes_of (Some bytes) = bytes

-- a file as the cabinet tells it
abbrev pub file_told : List ℕ × MemorySourceNow → List ℕ × List ℕ
file_told f = (f.0, bytes_of f.1.state.left)

-- what a source in memory tells
abbrev pub source_told : MemorySourceNow → SourceState
source_told s = s.state

-- a cabinet of these files before its first call
abbrev pub new_cabinet : List (List ℕ × MemorySourceNow) → MemoryCabinetNow
new_cabinet files = record {
  state = record { faults = 0; files = Some (map file_told files); told_end = false };
  files = files;
}

-- the first file of that name is handed out; there is none exactly where each file that is left has another name
abbrev pub MemoryFetches : MemoryCabinetNow → MemoryCabinetNow → List ℕ → Result MemorySourceNow NoFile → Type 0
MemoryFetches old new name (Ok file) = TakesFirst name file old.files new.files
MemoryFetches old new name (Err none) = All (NamesOther name) old.files × (new.files ≡ old.files)
