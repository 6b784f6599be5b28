-- The configuration's file, and what it says.
use Rattle.std.specs.Prelude.{◌≡◌, ℕ, true, List, Ok, IfSome}
use Rattle.hx_link.specs.Told.{SourceState}
use Rattle.hx_link.specs.Whole.{ReadsAll}
use Rattle.hx_doors.specs.Cabinets.{CabinetState, HandsOut, IsUnreadFile}
use Rattle.hx_config_parts.specs.Faults.{IsFaultOf}
use Rattle.hx_config_parts.specs.declared.fault.ConfigFault.TheVariants.{At}
use Rattle.hx_config.specs.Meaning.{Meaning, longest_text, meaning_of}

-- the cabinet handed out its first file of that name, unread; these are all of its bytes, or one past the most bytes of a
-- configuration; and it came back without a fault
pub record ReadsFile (name : List ℕ) (old new : CabinetState) (bytes : List ℕ) : Type 0 where
  -- the file as it was handed out, and after it was read
  pub file : SourceState
  pub read_file : SourceState
  pub handed : HandsOut name file old.files new.files
  pub unread : IsUnreadFile file
  pub reads : ReadsAll longest_text file read_file bytes
  pub told_end : new.told_end ≡ read_file.told_end
  pub faults : new.faults ≡ old.faults

-- the file of that name was read to its end without a fault, and its bytes are a configuration that says this
pub record HoldsConfig (name : List ℕ) (old new : CabinetState) (says : Meaning) : Type 0 where
  pub bytes : List ℕ
  pub read : ReadsFile name old new bytes
  pub ended : new.told_end ≡ true
  -- the bytes are those of the file, where it tells them
  pub whole : IfSome read.file.left (λ all. bytes ≡ all)
  pub means : meaning_of bytes ≡ Ok says

-- the first fault of a text, by its line and its rule
abbrev pub HasFirstFault : List ℕ → ℕ → ℕ → Type 0
HasFirstFault bytes line rule = IsFaultOf (At line rule) (meaning_of bytes)

-- the file of that name was read without a fault, and has this first fault
pub record HoldsFault (name : List ℕ) (old new : CabinetState) (line rule : ℕ) : Type 0 where
  pub bytes : List ℕ
  pub read : ReadsFile name old new bytes
  pub fault : HasFirstFault bytes line rule
  -- so has the whole file, where it tells its bytes
  pub whole : IfSome read.file.left (λ all. HasFirstFault all line rule)
