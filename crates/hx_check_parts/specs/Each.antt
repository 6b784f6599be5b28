-- Facts of the items of a list, by their index, and the first item that one of them fails for.
use Rattle.std.specs.Prelude.{◌≡◌, ℕ, ◌<◌, List, Some, IfSome, length, slice_get}

-- the fact holds of each item in front of that index
abbrev pub HoldsBelow : {A : Type 0} → (ℕ → A → Type 0) → List A → ℕ → Type 0
HoldsBelow P xs n = (k : ℕ) → k < n → IfSome (slice_get xs k) (P k)

-- the fact holds of each item
abbrev pub HoldsOfEach : {A : Type 0} → (ℕ → A → Type 0) → List A → Type 0
HoldsOfEach P xs = HoldsBelow P xs (length xs)

-- the item at that index is the first for which it doesn't hold
pub record FailsFirst {A : Type 0} (P : ℕ → A → Type 0) (xs : List A) (n : ℕ) : Type 0 where
  pub item : A
  pub there : slice_get xs n ≡ Some item
  pub fails : ¬ P n item
  pub before : HoldsBelow P xs n
