-- Private: how values under numbers are laid out.
use Rattle.std.specs.Prelude.{◌≢◌, ℕ, ◌-◌, min, List, [], ◌∷◌, ◌++◌, length, Option, Some, None, IsSome, slice_index_or, ⊤}
use Rattle.slab.specs.Slab.{Slab, slab_len}
use Rattle.hx_numbered.specs.Numbers.{IsRising}
use Rattle.hx_numbered.specs.Numbered.{Numbered}

-- the value under a key
abbrev pub under : {T : Type 0} → List (Option T) → ℕ → Option T
under slots key = slice_index_or slots key None

-- a value under its number, if there is one
abbrev pub with_number : {T : Type 0} → ℕ → Option T → List (ℕ × T)
with_number n None = []
with_number n (Some v) = (n, v) ∷ []

-- by rising number
abbrev pub listed : {T : Type 0} → List (Option T) → List (ℕ × ℕ) → List (ℕ × T)
listed slots [] = []
listed slots (p ∷ order) = with_number p.0 (under slots p.1) ++ listed slots order

-- each key has a value
abbrev pub AreFilled : {T : Type 0} → List (Option T) → List (ℕ × ℕ) → Type 0
AreFilled slots [] = ⊤
AreFilled slots (p ∷ order) = IsSome (under slots p.1) × AreFilled slots order

-- none has this key
abbrev pub NoneHas : ℕ → List (ℕ × ℕ) → Type 0
NoneHas key [] = ⊤
NoneHas key (p ∷ order) = (p.1 ≢ key) × NoneHas key order

-- no two have one key
abbrev pub KeysDiffer : List (ℕ × ℕ) → Type 0
KeysDiffer [] = ⊤
KeysDiffer (p ∷ order) = NoneHas p.1 order × KeysDiffer order

-- each number has its value, under a key of its own, and the numbers rise
pub record IsListed {T : Type 0} (slots : List (Option T)) (order : List (ℕ × ℕ)) : Type 0 where
  pub rising : IsRising order
  pub filled : AreFilled slots order
  pub differ : KeysDiffer order

-- what a contract sees of a slab and of an order with that capacity
abbrev pub seen : {T : Type 0} → Slab T → List (ℕ × ℕ) → ℕ → Numbered T
seen slab order capacity = record {
  items = listed slab.slots order;
  room = min (slab.capacity - slab_len slab) (capacity - length order);
}
