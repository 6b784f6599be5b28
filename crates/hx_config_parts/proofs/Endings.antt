-- The first line of a text.
use Rattle.std.proofs.Common.{◌≡◌, ◌≢◌, ℕ, suc, ◌+◌, ◌-◌, ◌<◌, true, false, List, [], ◌∷◌, length, get_or, take, drop, refl, sym, ap, ◌∙◌, arith, inl, inr}
use Rattle.std.specs.Prelude.{◌==◌}
use Rattle.std.specs.List.{prefix_len}
use Rattle.std.proofs.lemmas.List.{drop_all, drop_more}
use Rattle.std.proofs.lemmas.Bool.{cases_Bool, cond-true, cond-false, and_right, and_left, and_from, not-true, not-false, eq-eqb, ne_eqb}
use Rattle.hx_config_parts.specs.Lexical.{on_first, ends_line, is_kept, without_return, lines_of}

one_more : (b : ℕ) (bs : List ℕ) → is_kept b ≡ true → prefix_len is_kept (b ∷ bs) ≡ suc (prefix_len is_kept bs)
one_more b bs h = cond-true _ _ _ h ∙ omega arith

no_more : (b : ℕ) (bs : List ℕ) → is_kept b ≡ false → prefix_len is_kept (b ∷ bs) ≡ 0
no_more b bs h = cond-false _ _ _ h

inside : (b : ℕ) (bs : List ℕ) → is_kept b ≡ true → ends_line bs ≡ false → lines_of (b ∷ bs) ≡ on_first b (lines_of bs)
unfolding lines_of
inside b bs kept goes = cond-false _ _ _ (not-true _ kept) ∙ cond-false _ _ _ (and_right _ _ goes)

feed_first : (b : ℕ) (bs : List ℕ) → is_kept b ≡ false → lines_of (b ∷ bs) ≡ [] ∷ lines_of bs
unfolding lines_of
feed_first b bs ends = cond-true _ _ _ (not-false _ ends)

return_first : (b : ℕ) (bs : List ℕ) → is_kept b ≡ true → (b == 13) ≡ true → ends_line bs ≡ true → lines_of (b ∷ bs) ≡ lines_of bs
unfolding lines_of
return_first b bs kept cr ends = cond-false _ _ _ (not-true _ kept) ∙ cond-true _ _ _ (and_from _ _ cr ends)

return_not : (b : ℕ) (bs : List ℕ) → is_kept b ≡ true → (b == 13) ≡ false → lines_of (b ∷ bs) ≡ on_first b (lines_of bs)
unfolding lines_of
return_not b bs kept cr = cond-false _ _ _ (not-true _ kept) ∙ cond-false _ _ _ (and_left _ _ cr)

-- a text without a line feed is one line
pub only_line : (b : ℕ) (bs : List ℕ) → drop (prefix_len is_kept (b ∷ bs)) (b ∷ bs) ≡ []
    → lines_of (b ∷ bs) ≡ take (prefix_len is_kept (b ∷ bs)) (b ∷ bs) ∷ []
unfolding lines_of
only_line b [] none = elim (cases_Bool (is_kept b)) [
  | inr ends ↦ absurd (let at : b ∷ [] ≡ [] = sym (ap (λ (n : ℕ). drop n (b ∷ [])) (no_more b [] ends)) ∙ none in cc)
  | inl kept ↦ inside b [] kept refl ∙ ap (λ (n : ℕ). take n (b ∷ []) ∷ []) (sym (one_more b [] kept))
]
only_line b (c ∷ cs) none = elim (cases_Bool (is_kept b)) [
  | inr ends ↦ absurd (let at : b ∷ c ∷ cs ≡ [] = sym (ap (λ (n : ℕ). drop n (b ∷ c ∷ cs)) (no_more b (c ∷ cs) ends)) ∙ none in cc)
  | inl kept ↦
      let behind : drop (prefix_len is_kept (c ∷ cs)) (c ∷ cs) ≡ [] = sym (ap (λ (n : ℕ). drop n (b ∷ c ∷ cs)) (one_more b (c ∷ cs) kept)) ∙ none in
      elim (cases_Bool (is_kept c)) [
        | inr ends ↦ absurd (let at : c ∷ cs ≡ [] = sym (ap (λ (n : ℕ). drop n (c ∷ cs)) (no_more c cs ends)) ∙ behind in cc)
        | inl more ↦
            inside b (c ∷ cs) kept (not-true _ more) ∙ ap (on_first b) (only_line c cs behind)
            ∙ ap (λ (n : ℕ). take n (b ∷ c ∷ cs) ∷ []) (sym (one_more b (c ∷ cs) kept))
      ]
]

-- a byte before the rest of its line
before_kept : (b : ℕ) (bs after : List ℕ) (d : ℕ) → is_kept b ≡ true → drop (prefix_len is_kept bs) bs ≡ d ∷ after
    → lines_of bs ≡ without_return (take (prefix_len is_kept bs) bs) ∷ lines_of after
    → lines_of (b ∷ bs) ≡ without_return (b ∷ take (prefix_len is_kept bs) bs) ∷ lines_of after
before_kept b [] after d kept behind rest = absurd (let none : [] ≡ d ∷ after = behind in cc)
before_kept b (c ∷ cs) after d kept behind rest = elim (cases_Bool (is_kept c)) [
  | inl more ↦
      let len : take (prefix_len is_kept (c ∷ cs)) (c ∷ cs) ≡ c ∷ take (prefix_len is_kept cs) cs = ap (λ (n : ℕ). take n (c ∷ cs)) (one_more c cs more) in
      inside b (c ∷ cs) kept (not-true _ more) ∙ ap (on_first b) rest
      ∙ ap (λ (xs : List ℕ). (b ∷ without_return xs) ∷ lines_of after) len
      ∙ ap (λ (xs : List ℕ). without_return (b ∷ xs) ∷ lines_of after) (sym len)
  | inr ends ↦
      let len : take (prefix_len is_kept (c ∷ cs)) (c ∷ cs) ≡ [] = ap (λ (n : ℕ). take n (c ∷ cs)) (no_more c cs ends) in
      let line : lines_of (c ∷ cs) ≡ [] ∷ lines_of after = rest ∙ ap (λ (xs : List ℕ). without_return xs ∷ lines_of after) len in
      elim (cases_Bool (b == 13)) [
        | inl cr ↦
            return_first b (c ∷ cs) kept cr (not-false _ ends) ∙ line
            ∙ ap (λ (xs : List ℕ). xs ∷ lines_of after) (sym (cond-true _ _ _ cr))
            ∙ ap (λ (xs : List ℕ). without_return (b ∷ xs) ∷ lines_of after) (sym len)
        | inr plain ↦
            return_not b (c ∷ cs) kept plain ∙ ap (on_first b) line
            ∙ ap (λ (xs : List ℕ). xs ∷ lines_of after) (sym (cond-false _ _ _ plain))
            ∙ ap (λ (xs : List ℕ). without_return (b ∷ xs) ∷ lines_of after) (sym len)
      ]
]

-- the line before the first line feed
pub line_before : (rest after : List ℕ) (d : ℕ) → drop (prefix_len is_kept rest) rest ≡ d ∷ after
    → lines_of rest ≡ without_return (take (prefix_len is_kept rest) rest) ∷ lines_of after
line_before [] after d at = absurd (let no : [] ≡ d ∷ after = at in cc)
line_before (b ∷ bs) after d at = elim (cases_Bool (is_kept b)) [
  | inr ends ↦
      let e : b ∷ bs ≡ d ∷ after = sym (ap (λ (n : ℕ). drop n (b ∷ bs)) (no_more b bs ends)) ∙ at in
      let rest_is : bs ≡ after = cc in
      feed_first b bs ends ∙ ap (λ (xs : List ℕ). [] ∷ lines_of xs) rest_is
      ∙ ap (λ (n : ℕ). without_return (take n (b ∷ bs)) ∷ lines_of after) (sym (no_more b bs ends))
  | inl kept ↦
      let behind : drop (prefix_len is_kept bs) bs ≡ d ∷ after = sym (ap (λ (n : ℕ). drop n (b ∷ bs)) (one_more b bs kept)) ∙ at in
      before_kept b bs after d kept behind (line_before bs after d behind)
      ∙ ap (λ (n : ℕ). without_return (take n (b ∷ bs)) ∷ lines_of after) (sym (one_more b bs kept))
]

-- a carriage return at the end is dropped
pub dropped_return : (xs : List ℕ) → 0 < length xs → get_or xs (length xs - 1) 0 ≡ 13 → without_return xs ≡ take (length xs - 1) xs
dropped_return [] some at = absurd (omega arith)
dropped_return (b ∷ []) some at = let e : b ≡ 13 = at in cond-true _ _ _ (eq-eqb b 13 e)
dropped_return (b ∷ c ∷ bs) some at =
    let n : length (b ∷ c ∷ bs) - 1 ≡ suc (length (c ∷ bs) - 1) = omega arith in
    let there : get_or (c ∷ bs) (length (c ∷ bs) - 1) 0 ≡ 13 = sym (ap (λ (k : ℕ). get_or (b ∷ c ∷ bs) k 0) n) ∙ at in
    ap (λ (ys : List ℕ). b ∷ ys) (dropped_return (c ∷ bs) (omega arith) there) ∙ ap (λ (k : ℕ). take k (b ∷ c ∷ bs)) (sym n)

-- another line stays
pub kept_line : (xs : List ℕ) → (0 < length xs → get_or xs (length xs - 1) 0 ≢ 13) → without_return xs ≡ xs
kept_line [] other = refl
kept_line (b ∷ []) other = cond-false _ _ _ (ne_eqb b 13 (λ e. other (omega arith) e))
kept_line (b ∷ c ∷ bs) other =
    let n : length (b ∷ c ∷ bs) - 1 ≡ suc (length (c ∷ bs) - 1) = omega arith in
    ap (λ (ys : List ℕ). b ∷ ys) (kept_line (c ∷ bs) (λ some e. other (omega arith) (ap (λ (k : ℕ). get_or (b ∷ c ∷ bs) k 0) n ∙ e)))

-- the first line of a text that is not empty
pub without_feed : (rest : List ℕ) (n : ℕ) → length rest ≢ 0 → n ≡ prefix_len is_kept rest → n ≡ length rest
    → lines_of rest ≡ take n rest ∷ lines_of (drop n rest)
unfolding lines_of
without_feed [] n some is all = absurd (some refl)
without_feed (b ∷ bs) n some is all =
    let none : drop n (b ∷ bs) ≡ [] = drop_all n (b ∷ bs) (omega arith) in
    only_line b bs (ap (λ (k : ℕ). drop k (b ∷ bs)) (sym is) ∙ none) ∙ ap (λ (k : ℕ). take k (b ∷ bs) ∷ []) (sym is)
    ∙ ap (λ (xs : List ℕ). take n (b ∷ bs) ∷ lines_of xs) (sym none)

pub with_feed : (rest : List ℕ) (n : ℕ) → n ≡ prefix_len is_kept rest → n < length rest
    → lines_of rest ≡ without_return (take n rest) ∷ lines_of (drop (n + 1) rest)
with_feed rest n is lt =
    line_before rest (drop (n + 1) rest) (get_or rest n 0) (ap (λ (k : ℕ). drop k rest) (sym is) ∙ drop_more rest n 0 lt)
    ∙ ap (λ (k : ℕ). without_return (take k rest) ∷ lines_of (drop (n + 1) rest)) (sym is)

pub no_lines : (rest : List ℕ) → rest ≡ [] → lines_of rest ≡ []
unfolding lines_of
no_lines rest none = ap lines_of none
