-- Lines and words, from the left.
use Rattle.std.proofs.Common.{◌≡◌, ◌≢◌, ℕ, suc, ◌+◌, ◌<◌, ◌≤◌, Bool, true, false, List, [], ◌∷◌, length, take, drop, get_or, refl, sym, ap, ◌∙◌, arith, inl, inr}
use Rattle.std.specs.Prelude.{◌==◌}
use Rattle.std.specs.List.{prefix_len}
use Rattle.std.proofs.lemmas.Bool.{cases_Bool, cond-true, cond-false, and_parts, not-true}
use Rattle.std.proofs.lemmas.Bool.Decides.{nat_tests}
use Rattle.std.proofs.lemmas.List.{drop_more}
use Rattle.hx_config_parts.specs.Lexical.{on_first, is_blank, begins_blank, is_inside, words_of}

-- a blank is no part of a word
skipped : (b : ℕ) (bs : List ℕ) → is_blank b ≡ true → words_of (b ∷ bs) ≡ words_of bs
unfolding words_of
skipped b bs blank =
    let plain : (b == 35) ≡ false = grind (arith, nat_tests) in
    cond-false _ _ _ plain ∙ cond-true _ _ _ blank

pub skip_one : (rest : List ℕ) (i : ℕ) (total : List (List ℕ)) → i < length rest → is_blank (get_or rest i 0) ≡ true
    → words_of (drop i rest) ≡ total → words_of (drop (i + 1) rest) ≡ total
skip_one rest i total lt blank so_far =
    sym (ap words_of (drop_more rest i 0 lt) ∙ skipped (get_or rest i 0) (drop (i + 1) rest) blank) ∙ so_far

-- without a byte of a word at the front there is no word
pub no_word : (rest : List ℕ) → begins_blank rest ≡ false → prefix_len is_inside rest ≡ 0 → words_of rest ≡ []
unfolding words_of
no_word [] blank none = refl
no_word (b ∷ bs) blank none = elim (cases_Bool (b == 35)) [
  | inl holds ↦ cond-true _ _ _ holds
  | inr fails ↦ absurd (let inside : is_inside b ≡ true = rw (blank, fails) refl in
      let one : prefix_len is_inside (b ∷ bs) ≡ 1 + prefix_len is_inside bs = cond-true _ _ _ inside in
      omega (arith, one, none))
]

inside_is : (b : ℕ) → is_inside b ≡ true → (is_blank b ≡ false) × ((b == 35) ≡ false)
inside_is b h = let p = and_parts _ _ h in (not-true _ p.0, not-true _ p.1)

-- the bytes of a word at the front are the first word
pub first_word_is : (rest : List ℕ) → 0 < prefix_len is_inside rest
    → words_of rest ≡ take (prefix_len is_inside rest) rest ∷ words_of (drop (prefix_len is_inside rest) rest)
unfolding words_of
first_word_is [] some = absurd (omega arith)
first_word_is (b ∷ []) some = elim (cases_Bool (is_inside b)) [
  | inl holds ↦ let p = inside_is b holds in rw (holds, p.0, p.1) refl
  | inr fails ↦ absurd (let none : prefix_len is_inside (b ∷ []) ≡ 0 = cond-false _ _ _ fails in omega (arith, none, some))
]
first_word_is (b ∷ c ∷ cs) some = elim (cases_Bool (is_inside b)) [
  | inl holds ↦ let p = inside_is b holds in elim (cases_Bool (is_inside c)) [
    | inl more ↦
        let len : prefix_len is_inside (b ∷ c ∷ cs) ≡ suc (prefix_len is_inside (c ∷ cs)) = cond-true _ _ _ holds ∙ omega arith in
        let some_more : 0 < prefix_len is_inside (c ∷ cs) = (let l : prefix_len is_inside (c ∷ cs) ≡ 1 + prefix_len is_inside cs = cond-true _ _ _ more in omega (arith, l)) in
        let head : words_of (b ∷ c ∷ cs) ≡ on_first b (words_of (c ∷ cs)) = cond-false _ _ _ p.1 ∙ cond-false _ _ _ p.0 ∙ cond-true _ _ _ more in
        head ∙ ap (on_first b) (first_word_is (c ∷ cs) some_more)
        ∙ ap (λ (n : ℕ). take n (b ∷ c ∷ cs) ∷ words_of (drop n (b ∷ c ∷ cs))) (sym len)
    | inr last ↦
        let len : prefix_len is_inside (b ∷ c ∷ cs) ≡ 1 = (cond-true _ _ _ holds ∙ ap (λ (n : ℕ). 1 + n) (cond-false _ _ _ last)) in
        let head : words_of (b ∷ c ∷ cs) ≡ (b ∷ []) ∷ words_of (c ∷ cs) = cond-false _ _ _ p.1 ∙ cond-false _ _ _ p.0 ∙ cond-false _ _ _ last in
        head ∙ ap (λ (n : ℕ). take n (b ∷ c ∷ cs) ∷ words_of (drop n (b ∷ c ∷ cs))) (sym len)
  ]
  | inr fails ↦ absurd (let none : prefix_len is_inside (b ∷ c ∷ cs) ≡ 0 = cond-false _ _ _ fails in omega (arith, none, some))
]

pub prefix_in : (p : ℕ → Bool) (xs : List ℕ) → prefix_len p xs ≤ length xs
prefix_in p [] = omega arith
prefix_in p (x ∷ xs) = elim (cases_Bool (p x)) [
  | inl holds ↦ let l : prefix_len p (x ∷ xs) ≡ 1 + prefix_len p xs = cond-true _ _ _ holds in let ih = prefix_in p xs in omega (arith, l, ih)
  | inr fails ↦ let l : prefix_len p (x ∷ xs) ≡ 0 = cond-false _ _ _ fails in omega (arith, l)
]

pub word_in_front : (rest : List ℕ) (n : ℕ) → n ≡ prefix_len is_inside rest → n ≢ 0 → words_of rest ≡ take n rest ∷ words_of (drop n rest)
word_in_front rest n is some =
    let there : 0 < prefix_len is_inside rest = omega arith in
    rw is (first_word_is rest there)
