-- The values of digits.
use Rattle.std.proofs.Common.{◌≡◌, ℕ, suc, ◌+◌, ◌-◌, ◌*◌, ◌<◌, ◌≤◌, Bool, true, List, [], ◌∷◌, length, take, drop, get_or, min, refl, sym, ap, ◌∙◌, arith, inl, inr}
use Rattle.std.proofs.lemmas.List.{drop_more, drop_all}
use Rattle.std.proofs.lemmas.Bool.{cases_Bool, cond-true, cond-false}
use Rattle.std.specs.List.{list_all, prefix_len}
use Rattle.hx_config_parts.specs.Numbers.{value_from}

-- what is past the greatest value stays past it
past : (a b : ℕ) (ws : List ℕ) → min a 1000000000000000 ≡ min b 1000000000000000
    → min (value_from a ws) 1000000000000000 ≡ min (value_from b ws) 1000000000000000
unfolding value_from
past a b [] e = e
past a b (w ∷ ws) e = past (10 * a + (w - 48)) (10 * b + (w - 48)) ws (omega arith)

pub one_digit : (n : ℕ) (word : List ℕ) (i : ℕ) (m total : ℕ) → i < length word → m ≡ min (10 * n + (get_or word i 0 - 48)) 1000000000000000
    → min (value_from n (drop i word)) 1000000000000000 ≡ total → min (value_from m (drop (i + 1) word)) 1000000000000000 ≡ total
unfolding value_from
one_digit n word i m total lt is so_far =
    let at : value_from n (drop i word) ≡ value_from (10 * n + (get_or word i 0 - 48)) (drop (i + 1) word) = rw (drop_more word i 0 lt) refl in
    past m (10 * n + (get_or word i 0 - 48)) (drop (i + 1) word) (omega arith) ∙ sym (ap (λ v. min v 1000000000000000) at) ∙ so_far

pub no_digit : (n : ℕ) (word : List ℕ) (i : ℕ) (total : ℕ) → length word ≤ i → n ≤ 1000000000000000
    → min (value_from n (drop i word)) 1000000000000000 ≡ total → n ≡ total
unfolding value_from
no_digit n word i total past small so_far =
    let at : value_from n (drop i word) ≡ n = rw (drop_all i word past) refl in
    let last : n ≡ min n 1000000000000000 = omega arith in
    last ∙ sym (ap (λ v. min v 1000000000000000) at) ∙ so_far

-- the digits at the front are digits
pub digits_in_front : (p : ℕ → Bool) (word : List ℕ) → list_all p (take (prefix_len p word) word) ≡ true
digits_in_front p [] = refl
digits_in_front p (b ∷ bs) = elim (cases_Bool (p b)) [
  | inl holds ↦
      let len : prefix_len p (b ∷ bs) ≡ suc (prefix_len p bs) = cond-true _ _ _ holds ∙ omega arith in
      let here : list_all p (b ∷ take (prefix_len p bs) bs) ≡ true = rw holds (digits_in_front p bs) in
      ap (λ (n : ℕ). list_all p (take n (b ∷ bs))) len ∙ here
  | inr fails ↦ ap (λ (n : ℕ). list_all p (take n (b ∷ bs))) (cond-false _ _ _ fails)
]
