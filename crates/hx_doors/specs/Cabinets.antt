-- What a cabinet tells of itself, and what a caller learns of each of its calls. Contracts alone speak of it.
use Rattle.std.specs.Prelude.{◌≡◌, ℕ, Bool, false, List, ◌∷◌, ◌++◌, Option, Some, None, IfSome, Result, Ok, Err, All}
use Rattle.hx_link.specs.Told.{SourceState, CountsOne}
use Rattle.hx_doors.specs.declared.cabinet.NoFile.{NoFile}

-- what a cabinet tells
pub record CabinetState : Type 0 where
  -- how often it failed
  pub faults : ℕ
  -- the files that it holds, in order, each with its name and its bytes, where it tells them
  pub files : Option (List (List ℕ × List ℕ))
  -- the file that came back last had told its end
  pub told_end : Bool

-- a file of another name
abbrev pub NamesOther : {X : Type 0} → List ℕ → List ℕ × X → Type 0
NamesOther name file = file.0 ≡ name → ⊥

-- the first file of that name, and the files without it
pub record TakesFirst {X : Type 0} (name : List ℕ) (x : X) (old new : List (List ℕ × X)) : Type 0 where
  pub before : List (List ℕ × X)
  pub after : List (List ℕ × X)
  pub whole : old ≡ before ++ (name, x) ∷ after
  pub earlier : All (NamesOther name) before
  pub left : new ≡ before ++ after

-- a file before its first read
pub record IsUnreadFile (s : SourceState) : Type 0 where
  pub faults : s.faults ≡ 0
  pub told_end : s.told_end ≡ false

-- files with their names and their bytes
abbrev pub Files : Type 0
Files = List (List ℕ × List ℕ)

-- where files are told, the file is the first of its name, with its bytes, and isn't held any more
abbrev pub HandsOut : List ℕ → SourceState → Option Files → Option Files → Type 0
HandsOut name source None new = new ≡ None
HandsOut name source (Some files) new =
    (bytes : List ℕ) × (left : Files) × (new ≡ Some left) × TakesFirst name bytes files left
    × IfSome source.left (λ xs. xs ≡ bytes)

-- a file is handed out unread, or a fault is counted
abbrev pub CabinetFetches : {S : Type 0} → (S → SourceState) → CabinetState → CabinetState → List ℕ → Result S NoFile
    → Type 0
CabinetFetches state old new name (Ok source) =
    (new ≡ record old { files = new.files }) × HandsOut name (state source) old.files new.files
    × IsUnreadFile (state source)
CabinetFetches state old new name (Err none) =
    (new ≡ record old { faults = new.faults }) × CountsOne old.faults new.faults

-- a file's faults are the cabinet's: a fault is counted exactly where the file has one
abbrev pub CountsFaults : ℕ → ℕ → ℕ → Type 0
CountsFaults faults old new = (faults ≡ 0 → new ≡ old) × ((faults ≡ 0 → ⊥) → CountsOne old new)

-- the cabinet knows whether the file that came back had told its end
abbrev pub CabinetTakesBack : CabinetState → CabinetState → SourceState → Type 0
CabinetTakesBack old new source =
    (new ≡ record old { faults = new.faults; told_end = source.told_end })
    × CountsFaults source.faults old.faults new.faults
