-- A board is made, and its seats.
use Rattle.std.proofs.Common.{◌≡◌, ℕ, zero, suc, ◌+◌, ◌*◌, ◌≤◌, List, [], ◌∷◌, ◌++◌, length, ◌⊎◌, ⊎_elim, inl, inr, refl, sym, ap, ◌∙◌, subst, arith, Some, length-append, slice_get, false}
use Rattle.std.specs.Vec.{vec_capacity}
use Rattle.hx_base.specs.declared.numbers.ThreadNo.{ThreadNo}
use Rattle.hx_base.specs.Shown.{Shown}
use Rattle.hx_pool.specs.declared.board.BoardTerms.{BoardTerms}
use Rattle.hx_pool.specs.Opening.{open_limit}
use Rattle.hx_resting.specs.declared.values.Rows.{Rows}
use Rattle.hx_resting.specs.Rows.{rests_of, IsAfter}
use Rattle.hx_lockboard.proofs.Taken.{after_as}

low : (t : ThreadNo) → 0 ≤ open_limit t
low t = omega arith

-- the value of an unused board
pub unused_after : {V : Type 0} (shows : V → Shown) (b : BoardTerms) (rows : Rows V) → rows.next ≡ 1 → rows.draining ≡ false → rows.round ≡ 0 → rows.resting.items ≡ [] → 64 * b.threads ≤ vec_capacity rows.resting → IsAfter shows b [] rows
unused_after shows b rows next gate round none roomy = after_as shows b [] (record { next = 1; draining = false; count = 0; round = 0 }) [] rows record {
  right = record { legal = tt; mode = tt; limit = tt; threads = tt };
  next_is = refl;
  gate_is = refl;
  count_is = refl;
  round_is = refl;
  resting_is = refl;
  spots_are = λ p. refl;
  apart = tt;
  kept = tt;
  rising = tt;
  opened = refl;
  few = low;
} next gate refl round (ap (rests_of shows) none) roomy

get_snoc : {A : Type 0} (xs : List A) (x : A) (k : ℕ) (y : A) → slice_get (xs ++ x ∷ []) k ≡ Some y → (slice_get xs k ≡ Some y) ⊎ ((k ≡ length xs) × (x ≡ y))
get_snoc [] x zero y e = inr (refl, cc)
get_snoc [] x (suc k) y e = cc
get_snoc (z ∷ xs) x zero y e = inl e
get_snoc (z ∷ xs) x (suc k) y e = ⊎_elim inl (λ t. inr (ap suc t.0, t.1)) (get_snoc xs x k y e)

-- what holds of each element and its place holds with one more
pub each_more : {A : Type 0} (F : ℕ → A → Type 0) (xs ys : List A) (x : A) (n : ℕ) → ys ≡ xs ++ x ∷ [] → length xs ≡ n → ((k : ℕ) (s : A) → slice_get xs k ≡ Some s → F k s) → F n x → (k : ℕ) (s : A) → slice_get ys k ≡ Some s → F k s
each_more {A} F xs ys x n is long old here k s e = ⊎_elim (λ (e' : slice_get xs k ≡ Some s). old k s e')
    (λ (t : (k ≡ length xs) × (x ≡ s)). subst (λ (z : ℕ × A). F z.0 z.1) (λ i. (sym (t.0 ∙ long) i, t.1 i)) here)
    (get_snoc xs x k s (subst (λ (l : List A). slice_get l k ≡ Some s) is e))

pub length_snoc : {A : Type 0} (xs ys : List A) (x : A) (n : ℕ) → ys ≡ xs ++ x ∷ [] → length xs ≡ n → length ys ≡ n + 1
length_snoc xs ys x n is long = ap length is ∙ (length-append xs (x ∷ []) ∙ omega arith)
