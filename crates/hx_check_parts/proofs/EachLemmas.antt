-- Facts of the items of a list, one item further.
use Rattle.std.proofs.Common.{◌≡◌, ℕ, ◌+◌, ◌<◌, ◌≤◌, Bool, false, List, length, subst, sym, ◌∙◌, arith, below_more, get_or}
use Rattle.std.specs.Prelude.{IfSome, IsTrue, slice_get}
use Rattle.std.proofs.lemmas.Bool.{false≢true}
use Rattle.std.proofs.lemmas.Option.{slice_get-get_or}
use Rattle.hx_check_parts.specs.Each.{HoldsBelow, HoldsOfEach, FailsFirst}

-- the fact holds of one item more
pub holds_more : {A : Type 0} (P : ℕ → A → Type 0) (xs : List A) (i : ℕ) (d : A) → i < length xs → HoldsBelow P xs i
    → P i (get_or xs i d) → HoldsBelow P xs (i + 1)
holds_more P xs i d within below here =
    below_more (λ k. IfSome (slice_get xs k) (P k)) i below
    (subst (λ o. IfSome o (P i)) (sym (slice_get-get_or xs i d within)) here)

-- it holds of all items
pub holds_all : {A : Type 0} (P : ℕ → A → Type 0) (xs : List A) (i : ℕ) → length xs ≤ i → HoldsBelow P xs i → HoldsOfEach P xs
holds_all P xs i all below k h = below k (omega arith)

-- it fails for an item, and for none in front
pub fails_first : {A : Type 0} (P : ℕ → A → Type 0) (xs : List A) (i : ℕ) (d : A) → i < length xs → HoldsBelow P xs i
    → ¬ P i (get_or xs i d) → FailsFirst P xs i
fails_first P xs i d within below fails = record {
  item = get_or xs i d;
  there = slice_get-get_or xs i d within;
  fails = fails;
  before = below;
}

-- a test that failed
pub is_not_true : (b : Bool) → b ≡ false → ¬ IsTrue b
is_not_true b e h = false≢true (sym e ∙ h)
