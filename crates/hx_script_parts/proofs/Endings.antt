-- The first line of a text.
use Rattle.std.proofs.Common.{◌≡◌, ℕ, suc, ◌+◌, ◌-◌, ◌≤◌, true, false, List, [], ◌∷◌, length, take, drop, Option, Some, None, refl, sym, ap, ◌∙◌, arith, inl, inr, length-drop}
use Rattle.std.specs.Prelude.{MatchOption}
use Rattle.std.specs.List.{prefix_len}
use Rattle.std.specs.Option.{option_map}
use Rattle.std.proofs.lemmas.Bool.{cases_Bool, cond-true, cond-false, not-true, not-false}
use Rattle.hx_script_parts.specs.Lexical.{on_first, is_kept, lines_of, first_line, past_line, behind}

one_more : (b : ℕ) (bs : List ℕ) → is_kept b ≡ true → prefix_len is_kept (b ∷ bs) ≡ suc (prefix_len is_kept bs)
one_more b bs h = cond-true _ _ _ h ∙ omega arith

no_more : (b : ℕ) (bs : List ℕ) → is_kept b ≡ false → prefix_len is_kept (b ∷ bs) ≡ 0
no_more b bs h = cond-false _ _ _ h

inside : (b : ℕ) (bs : List ℕ) → is_kept b ≡ true → lines_of (b ∷ bs) ≡ on_first b (lines_of bs)
unfolding lines_of
inside b bs kept = cond-false _ _ _ (not-true _ kept)

feed_first : (b : ℕ) (bs : List ℕ) → is_kept b ≡ false → lines_of (b ∷ bs) ≡ [] ∷ lines_of bs
unfolding lines_of
feed_first b bs ends = cond-true _ _ _ (not-false _ ends)

-- the first line, cut at so many bytes
abbrev pub cut_line : ℕ → List ℕ → List (List ℕ)
cut_line n text = take n text ∷ lines_of (drop (suc n) text)

-- the first line is what stands before the first line feed
pub front_line : (b : ℕ) (bs : List ℕ) → lines_of (b ∷ bs) ≡ cut_line (prefix_len is_kept (b ∷ bs)) (b ∷ bs)
unfolding lines_of
front_line b [] = elim (cases_Bool (is_kept b)) [
  | inr ends ↦ feed_first b [] ends ∙ ap (λ (n : ℕ). cut_line n (b ∷ [])) (sym (no_more b [] ends))
  | inl kept ↦ inside b [] kept ∙ ap (λ (n : ℕ). cut_line n (b ∷ [])) (sym (one_more b [] kept))
]
front_line b (c ∷ cs) = elim (cases_Bool (is_kept b)) [
  | inr ends ↦ feed_first b (c ∷ cs) ends ∙ ap (λ (n : ℕ). cut_line n (b ∷ c ∷ cs)) (sym (no_more b (c ∷ cs) ends))
  | inl kept ↦
      inside b (c ∷ cs) kept ∙ ap (on_first b) (front_line c cs)
      ∙ ap (λ (n : ℕ). cut_line n (b ∷ c ∷ cs)) (sym (one_more b (c ∷ cs) kept))
]

behind_of : Option (List ℕ × List ℕ) → List ℕ
behind_of None = []
behind_of (Some x) = x.1

some_behind : (line after front rest : List ℕ) → ◌≡◌ {A = Option (List ℕ × List ℕ)} (Some (line, after)) (Some (front, rest)) → after ≡ rest
unfolding behind_of
some_behind line after front rest is = ap behind_of is

-- a text has a first line, unless it is empty
pub no_line_left : (rest : List ℕ) → None ≡ first_line rest → lines_of rest ≡ []
unfolding lines_of
no_line_left [] is = refl
no_line_left (b ∷ bs) is = cc

front_of : Option (List ℕ × List ℕ) → List ℕ
front_of None = []
front_of (Some x) = x.0

pub line_in_front : (rest line after : List ℕ) → Some (line, after) ≡ first_line rest → lines_of rest ≡ line ∷ lines_of after
unfolding front_of behind_of
line_in_front [] line after is = cc
line_in_front (b ∷ bs) line after is =
    let n = prefix_len is_kept (b ∷ bs) in
    let one : n + 1 ≡ suc n = omega arith in
    front_line b bs ∙ ap (λ (k : ℕ). take n (b ∷ bs) ∷ lines_of (drop k (b ∷ bs))) (sym one)
    ∙ ap (λ (xs : List ℕ). xs ∷ lines_of (drop (n + 1) (b ∷ bs))) (sym (ap front_of is))
    ∙ ap (λ (xs : List ℕ). line ∷ lines_of xs) (sym (ap behind_of is))

-- the same of what a call answers
pub lines_split : {X : Type 0} (rest : List ℕ) (view : X → List ℕ × List ℕ) (o : Option X) → option_map view o ≡ first_line rest
    → MatchOption o (lines_of rest ≡ []) (λ x. lines_of rest ≡ (view x).0 ∷ lines_of (view x).1)
lines_split rest view None is = no_line_left rest is
lines_split rest view (Some x) is = line_in_front rest (view x).0 (view x).1 is

-- what stands behind the lines that were passed
pub one_passed : (n m : ℕ) (rest line after : List ℕ) (total : Option (List ℕ)) → n ≡ suc m → Some (line, after) ≡ first_line rest
    → behind n rest ≡ total → behind m after ≡ total
unfolding behind
one_passed n m rest line after total is first so_far =
    let one : behind (suc m) rest ≡ behind m after = ap (λ (x : Option (List ℕ × List ℕ)). past_line x (λ (r : List ℕ). behind m r)) (sym first) in
    sym one ∙ ap (λ (k : ℕ). behind k rest) (sym is) ∙ so_far

pub none_passed : (n m : ℕ) (rest : List ℕ) (total : Option (List ℕ)) → n ≡ suc m → None ≡ first_line rest
    → behind n rest ≡ total → None ≡ total
unfolding behind
none_passed n m rest total is first so_far =
    let one : behind (suc m) rest ≡ None = ap (λ (x : Option (List ℕ × List ℕ)). past_line x (λ (r : List ℕ). behind m r)) (sym first) in
    sym one ∙ ap (λ (k : ℕ). behind k rest) (sym is) ∙ so_far

pub all_passed : (n : ℕ) (rest : List ℕ) (total : Option (List ℕ)) → n ≡ 0 → behind n rest ≡ total → Some rest ≡ total
unfolding behind
all_passed n rest total is so_far = ap (λ (k : ℕ). behind k rest) (sym is) ∙ so_far

-- a line has at least its line feed
pub passed_len : (rest line after : List ℕ) → Some (line, after) ≡ first_line rest → length after + 1 ≤ length rest
passed_len [] line after is = cc
passed_len (b ∷ bs) line after is =
    let n = prefix_len is_kept (b ∷ bs) in
    let after_is : after ≡ drop (n + 1) (b ∷ bs) = some_behind line after (take n (b ∷ bs)) (drop (n + 1) (b ∷ bs)) is in
    let len : length after ≡ length (b ∷ bs) - (n + 1) = ap (λ (xs : List ℕ). length xs) after_is ∙ length-drop (n + 1) (b ∷ bs) in
    omega arith
