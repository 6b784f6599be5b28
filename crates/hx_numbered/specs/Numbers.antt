-- Lists of pairs whose first parts are numbers that rise.
use Rattle.std.specs.Prelude.{◌≡◌, ℕ, ◌<◌, ◌≤◌, ◌==◌, nat_lt, if◌then◌else◌, List, [], ◌∷◌, length, Option, Some, None, slice_index_or, ⊤}

-- each number is above n
abbrev pub AreAbove : {T : Type 0} → ℕ → List (ℕ × T) → Type 0
AreAbove n [] = ⊤
AreAbove n (x ∷ items) = (n < x.0) × AreAbove n items

-- each number is below n
abbrev pub AreBelow : {T : Type 0} → List (ℕ × T) → ℕ → Type 0
AreBelow [] n = ⊤
AreBelow (x ∷ items) n = (x.0 < n) × AreBelow items n

-- the numbers rise
abbrev pub IsRising : {T : Type 0} → List (ℕ × T) → Type 0
IsRising [] = ⊤
IsRising (x ∷ items) = AreAbove x.0 items × IsRising items

-- the value under the number
abbrev pub value_of : {T : Type 0} → List (ℕ × T) → ℕ → Option T
value_of [] n = None
value_of (x ∷ items) n = if x.0 == n then Some x.1 else value_of items n

-- the items with another value under the number
abbrev pub with_value : {T : Type 0} → List (ℕ × T) → ℕ → T → List (ℕ × T)
with_value [] n v = []
with_value (x ∷ items) n v = if x.0 == n then (n, v) ∷ items else x ∷ with_value items n v

-- the items without the number
abbrev pub removed : {T : Type 0} → List (ℕ × T) → ℕ → List (ℕ × T)
removed [] n = []
removed (x ∷ items) n = if x.0 == n then items else x ∷ removed items n

-- the least number above n
abbrev pub number_above : {T : Type 0} → List (ℕ × T) → ℕ → Option ℕ
number_above [] n = None
number_above (x ∷ items) n = if nat_lt n x.0 then Some x.0 else number_above items n

-- the number at place i
abbrev pub number_at : List (ℕ × ℕ) → ℕ → ℕ
number_at order i = let pair = slice_index_or order i (0, 0) in pair.0

-- the pair at place i has the number
pub record IsAt (order : List (ℕ × ℕ)) (n i : ℕ) : Type 0 where
  pub in_range : i < length order
  pub has : number_at order i ≡ n

-- the number would go at place i: smaller ones before it, and greater ones from it on
pub record IsGapFor (order : List (ℕ × ℕ)) (n i : ℕ) : Type 0 where
  pub in_range : i ≤ length order
  pub smaller : (j : ℕ) → j < i → number_at order j < n
  pub greater : (j : ℕ) → i ≤ j → j < length order → n < number_at order j

-- the numbers before place i aren't above n, and those from it on are
pub record IsJustAbove (order : List (ℕ × ℕ)) (n i : ℕ) : Type 0 where
  pub in_range : i ≤ length order
  pub others : (j : ℕ) → j < i → number_at order j ≤ n
  pub greater : (j : ℕ) → i ≤ j → j < length order → n < number_at order j
