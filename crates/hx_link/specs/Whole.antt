-- A source that was read to its end, and a text that was written whole or in part.
use Rattle.std.specs.Prelude.{◌≡◌, ℕ, ◌+◌, ◌≤◌, true, List, ◌++◌, length, take, drop, IfSome, option_map}
use Rattle.hx_link.specs.Told.{SourceState, SinkState}

-- what was read stood at the front of what was left
pub record ReadsFront (old new : SourceState) (text : List ℕ) : Type 0 where
  pub left : new.left ≡ option_map (drop (length text)) old.left
  pub read : IfSome old.left (λ xs. (length text ≤ length xs) × (text ≡ take (length text) xs))

-- all that was left was read without a fault, and the source told its end; or one byte past the most was read
pub record ReadsAll (most : ℕ) (old new : SourceState) (text : List ℕ) : Type 0 where
  pub front : ReadsFront old new text
  pub same : new.faults ≡ old.faults
  pub ended : length text ≤ most → (new.told_end ≡ true) × IfSome old.left (λ xs. text ≡ xs)
  pub limit : length text ≤ most + 1

-- the sink took all the bytes without a fault
abbrev pub WritesAll : SinkState → SinkState → List ℕ → Type 0
WritesAll old new bytes = new ≡ record old { taken = option_map (λ xs. xs ++ bytes) old.taken }

-- the sink took the first count bytes
abbrev pub WritesPart : SinkState → SinkState → List ℕ → Type 0
WritesPart old new bytes =
    (count : ℕ) × (count ≤ length bytes) × (new.taken ≡ option_map (λ xs. xs ++ take count bytes) old.taken)
