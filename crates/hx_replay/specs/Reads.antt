-- How far a source was read.
use Rattle.std.specs.Prelude.{◌≡◌, ◌⊎◌, ℕ, ◌<◌, true, List, length}
use Rattle.hx_link.specs.Told.{SourceState}
use Rattle.hx_link.specs.Whole.{ReadsFront}

-- without a fault, to its end or past the most bytes that are taken
pub record IsReadOut (most : ℕ) (old new : SourceState) : Type 0 where
  pub same : new.faults ≡ old.faults
  pub bytes : List ℕ
  pub front : ReadsFront old new bytes
  pub out : (new.told_end ≡ true) ⊎ (most < length bytes)
