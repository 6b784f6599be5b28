-- The values of digits, up to the number past the greatest.
use Rattle.std.proofs.Common.{◌≡◌, ℕ, ◌+◌, ◌-◌, ◌*◌, ◌^◌, ◌<◌, ◌≤◌, List, [], ◌∷◌, length, drop, get_or, min, refl, sym, ap, ◌∙◌, arith}
use Rattle.std.proofs.lemmas.List.{drop_more, drop_all}
use Rattle.hx_config_parts.specs.Numbers.{value_from}

-- what is past the greatest value stays past it
past : (a b : ℕ) (ws : List ℕ) → min a (2 ^ 64) ≡ min b (2 ^ 64)
    → min (value_from a ws) (2 ^ 64) ≡ min (value_from b ws) (2 ^ 64)
unfolding value_from
past a b [] e = e
past a b (w ∷ ws) e = past (10 * a + (w - 48)) (10 * b + (w - 48)) ws (omega arith)

pub one_digit : (n : ℕ) (word : List ℕ) (i : ℕ) (m total : ℕ) → i < length word → m ≡ min (10 * n + (get_or word i 0 - 48)) (2 ^ 64)
    → min (value_from n (drop i word)) (2 ^ 64) ≡ total → min (value_from m (drop (i + 1) word)) (2 ^ 64) ≡ total
unfolding value_from
one_digit n word i m total lt is so_far =
    let at : value_from n (drop i word) ≡ value_from (10 * n + (get_or word i 0 - 48)) (drop (i + 1) word) = rw (drop_more word i 0 lt) refl in
    past m (10 * n + (get_or word i 0 - 48)) (drop (i + 1) word) (omega arith) ∙ sym (ap (λ (v : ℕ). min v (2 ^ 64)) at) ∙ so_far

pub no_digit : (n : ℕ) (word : List ℕ) (i : ℕ) (total : ℕ) → length word ≤ i → n ≤ 2 ^ 64
    → min (value_from n (drop i word)) (2 ^ 64) ≡ total → n ≡ total
unfolding value_from
no_digit n word i total past small so_far =
    let at : value_from n (drop i word) ≡ n = rw (drop_all i word past) refl in
    let last : n ≡ min n (2 ^ 64) = omega arith in
    last ∙ sym (ap (λ (v : ℕ). min v (2 ^ 64)) at) ∙ so_far
