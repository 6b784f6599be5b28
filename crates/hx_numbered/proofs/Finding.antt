-- What is found among values that are listed under their numbers.
use Rattle.std.proofs.Common.{◌≡◌, ℕ, zero, suc, ◌<◌, ◌≤◌, List, [], ◌∷◌, length, get_or, refl, sym, ap, ◌∙◌, arith, Option, Some, None}
use Rattle.std.specs.Prelude.{if◌then◌else◌, slice_get, option_map}
use Rattle.std.proofs.lemmas.Bool.{lt-ltb, le-ltb}
use Rattle.std.proofs.lemmas.List.{get_or_default}
use Rattle.hx_numbered.specs.Numbers.{IsRising, IsAt, IsGapFor, IsJustAbove, number_at, value_of, number_above}
use Rattle.hx_numbered.specs.Listed.{under, listed, AreFilled}
use Rattle.hx_numbered.proofs.Rising.{at_rest, later_above, some_there, first_is, value_here, value_past}

-- the key of the pair at place i
abbrev pub key_at : List (ℕ × ℕ) → ℕ → ℕ
key_at order i = let pair = get_or order i (0, 0) in pair.1

-- the value under a number is that under its key
pub found : {T : Type 0} (slots : List (Option T)) (order : List (ℕ × ℕ)) (n i : ℕ) → IsRising order → AreFilled slots order → IsAt order n i → value_of (listed slots order) n ≡ under slots (key_at order i)
found slots [] n i r f a = absurd (omega (arith, a.in_range))
found {T} slots (p ∷ order) n zero r f a =
    let v = some_there (under slots p.1) f.0 in
    ap (λ (l : List (ℕ × T)). value_of l n) (first_is slots p order v.0 v.1) ∙ (value_here (p.0, v.0) (listed slots order) n a.has ∙ sym v.1)
found {T} slots (p ∷ order) n (suc i) r f a =
    let v = some_there (under slots p.1) f.0 in
    let low = later_above p order n i r a in
    ap (λ (l : List (ℕ × T)). value_of l n) (first_is slots p order v.0 v.1)
    ∙ (value_past (p.0, v.0) (listed slots order) n (λ e. omega (arith, low, e)) ∙ found slots order n i r.1 f.1 (at_rest p order n i a))

-- a number that no pair has is not found
pub not_found : {T : Type 0} (slots : List (Option T)) (order : List (ℕ × ℕ)) (n : ℕ) → AreFilled slots order → ((j : ℕ) → j < length order → number_at order j ≡ n → ⊥) → value_of (listed slots order) n ≡ None
not_found slots [] n f apart = refl
not_found {T} slots (p ∷ order) n f apart =
    let v = some_there (under slots p.1) f.0 in
    ap (λ (l : List (ℕ × T)). value_of l n) (first_is slots p order v.0 v.1)
    ∙ (value_past (p.0, v.0) (listed slots order) n (apart 0 (omega arith)) ∙ not_found slots order n f.1 (λ j low. apart (suc j) (omega (arith, low))))

-- in its gap a number is none of them
pub gap_free : (order : List (ℕ × ℕ)) (n i : ℕ) → IsGapFor order n i → (j : ℕ) → j < length order → number_at order j ≡ n → ⊥
gap_free order n i g j low e = grind (arith, g.smaller j, g.greater j)

-- the number at a place, if the place is there
abbrev pub number_in : List (ℕ × ℕ) → ℕ → Option ℕ
number_in order i = option_map (λ (p : ℕ × ℕ). p.0) (slice_get order i)

-- where those before a place aren't above n and those from it on are, the least above n is at that place
pub above_found : {T : Type 0} (slots : List (Option T)) (order : List (ℕ × ℕ)) (n i : ℕ) → AreFilled slots order → IsJustAbove order n i → number_above (listed slots order) n ≡ number_in order i
above_found slots [] n zero f a = refl
above_found slots [] n (suc i) f a = absurd (omega (arith, a.in_range))
above_found {T} slots (p ∷ order) n zero f a =
    let v = some_there (under slots p.1) f.0 in
    ap (λ (l : List (ℕ × T)). number_above l n) (first_is slots p order v.0 v.1)
    ∙ ap (λ b. if b then Some p.0 else number_above (listed slots order) n) (lt-ltb n p.0 (a.greater 0 (omega arith) (omega arith)))
above_found {T} slots (p ∷ order) n (suc i) f a =
    let v = some_there (under slots p.1) f.0 in
    ap (λ (l : List (ℕ × T)). number_above l n) (first_is slots p order v.0 v.1)
    ∙ (ap (λ b. if b then Some p.0 else number_above (listed slots order) n) (le-ltb n p.0 (a.others 0 (omega arith)))
    ∙ above_found slots order n i f.1 (record {
      in_range = omega (arith, a.in_range);
      others = λ j less. a.others (suc j) (omega (arith, less));
      greater = λ j more here. a.greater (suc j) (omega (arith, more)) (omega (arith, here));
    }))

-- the key that is read at a place
pub key_read : (order : List (ℕ × ℕ)) (i : ℕ) (p : ℕ × ℕ) → i < length order → p ≡ get_or order i p → p.1 ≡ key_at order i
key_read order i p low e = ap (λ (q : ℕ × ℕ). q.1) (e ∙ get_or_default order i p (0, 0) low)

-- the number that is read at a place
pub number_here : (order : List (ℕ × ℕ)) (i : ℕ) (p : ℕ × ℕ) → i < length order → p ≡ get_or order i p → number_in order i ≡ Some p.0
number_here [] i p low e = absurd (omega (arith, low))
number_here (q ∷ order) zero p low e = ap (λ (x : ℕ × ℕ). Some x.0) (sym e)
number_here (q ∷ order) (suc i) p low e = number_here order i p (omega (arith, low)) e

-- behind the last place there is none
pub number_none : (order : List (ℕ × ℕ)) (i : ℕ) → length order ≤ i → number_in order i ≡ None
number_none [] i high = refl
number_none (q ∷ order) zero high = absurd (omega (arith, high))
number_none (q ∷ order) (suc i) high = number_none order i (omega (arith, high))
