-- What stands behind a text's front, one byte or one letter after the other.
use Rattle.std.proofs.Common.{◌≡◌, ℕ, ◌+◌, ◌<◌, ◌≤◌, ◌≢◌, List, [], ◌∷◌, ◌++◌, length, drop, get_or, Option, Some, None, refl, sym, ap, ap₂, ◌∙◌, inl, inr}
use Rattle.std.specs.Option.{option_map}
use Rattle.std.specs.List.{flat_map}
use Rattle.std.specs.Prelude.{◌==◌, MatchOption, codes}
use Rattle.std.specs.Borrow.{Bor}
use Rattle.std.proofs.lemmas.List.{drop_more, drop_all}
use Rattle.std.proofs.lemmas.Bool.{eq-eqb, ne_eqb, cond-true, cond-false, cases_Bool, eqb-true}
use Rattle.hx_script_parts.specs.ByteText.{escaped, quoted}
use Rattle.hx_transcripts_parts.specs.Spelling.{behind_front}

-- what goes on where something is left
abbrev pub onward : Option (List ℕ) → (List ℕ → Option (List ℕ)) → Option (List ℕ)
onward None go = None
onward (Some rest) go = go rest

same_some : (a b : List ℕ) → Some a ≡ Some b → a ≡ b
same_some a b is = cc

none_some : (a : List ℕ) → None ≡ Some a → ⊥
none_some a is = cc

one_more : (x : ℕ) (front : List ℕ) (b : ℕ) (bs : List ℕ) → b ≡ x → behind_front (x ∷ front) (b ∷ bs) ≡ behind_front front bs
unfolding behind_front
one_more x front b bs is = cond-true _ _ _ (eq-eqb _ _ is)

other_byte : (x : ℕ) (front : List ℕ) (b : ℕ) (bs : List ℕ) → b ≢ x → behind_front (x ∷ front) (b ∷ bs) ≡ None
unfolding behind_front
other_byte x front b bs is = cond-false _ _ _ (ne_eqb _ _ is)

-- one part of the front, and then the other
pub behind_both : (front more text : List ℕ) → behind_front (front ++ more) text ≡ onward (behind_front front text) (behind_front more)
unfolding behind_front
behind_both [] more text = refl
behind_both (x ∷ front) more [] = refl
behind_both (x ∷ front) more (b ∷ bs) = elim (cases_Bool (b == x)) [
  | inl is ↦ rw is (behind_both front more bs)
  | inr is ↦ rw is refl
]

-- what stands behind a front is what is left of the text
pub is_behind : (front text rest : List ℕ) → behind_front front text ≡ Some rest → text ≡ front ++ rest
unfolding behind_front
is_behind [] text rest is = same_some text rest is
is_behind (x ∷ front) [] rest is = cc
is_behind (x ∷ front) (b ∷ bs) rest is = elim (cases_Bool (b == x)) [
  | inl same ↦ ap₂ (λ (y : ℕ) (ys : List ℕ). y ∷ ys) (eqb-true b x same) (is_behind front bs rest (sym (cond-true (b == x) _ _ same) ∙ is))
  | inr other ↦ absurd (none_some rest (sym (cond-false (b == x) _ _ other) ∙ is))
]

-- and the other way round
pub stands_behind : (front rest : List ℕ) → behind_front front (front ++ rest) ≡ Some rest
unfolding behind_front
stands_behind [] rest = refl
stands_behind (x ∷ front) rest = cond-true _ _ _ (eq-eqb x x refl) ∙ stands_behind front rest

nothing : (front text : List ℕ) (o : Option (List ℕ)) → behind_front front text ≡ o → ((rest : List ℕ) → text ≢ front ++ rest) → behind_front front text ≡ None
nothing front text None is none = is
nothing front text (Some rest) is none = absurd (none rest (is_behind front text rest is))

-- what a call says that strips the front
pub stripped : (front text : List ℕ) (r : Option (Bor (List ℕ))) → MatchOption r ((rest : List ℕ) → text ≢ front ++ rest) (λ x. text ≡ front ++ x.now)
    → option_map (λ s. s.now) r ≡ behind_front front text
stripped front text None none = sym (nothing front text (behind_front front text) refl none)
stripped front text (Some x) is = sym (ap (behind_front front) is ∙ stands_behind front x.now)

-- ---- the letters of a byte text, one after the other

more_letters : (bytes : List ℕ) (i b : ℕ) → i < length bytes → b ≡ get_or bytes i 0
    → flat_map escaped (drop i bytes) ≡ escaped b ++ flat_map escaped (drop (i + 1) bytes)
more_letters bytes i b lt is =
    ap (flat_map escaped) (drop_more bytes i 0 lt) ∙ ap (λ (x : ℕ). escaped x ++ flat_map escaped (drop (i + 1) bytes)) (sym is)

pub letter_passed : (bytes rest after : List ℕ) (i b : ℕ) (total : Option (List ℕ)) → i < length bytes → b ≡ get_or bytes i 0
    → behind_front (escaped b) rest ≡ Some after → behind_front (flat_map escaped (drop i bytes)) rest ≡ total
    → behind_front (flat_map escaped (drop (i + 1) bytes)) after ≡ total
letter_passed bytes rest after i b total lt is one so_far =
    let more = flat_map escaped (drop (i + 1) bytes) in
    sym (ap (λ (o : Option (List ℕ)). onward o (behind_front more)) one) ∙ sym (behind_both (escaped b) more rest)
    ∙ sym (ap (λ (f : List ℕ). behind_front f rest) (more_letters bytes i b lt is)) ∙ so_far

pub letter_missing : (bytes rest : List ℕ) (i b : ℕ) (total : Option (List ℕ)) → i < length bytes → b ≡ get_or bytes i 0
    → behind_front (escaped b) rest ≡ None → behind_front (flat_map escaped (drop i bytes)) rest ≡ total → total ≡ None
letter_missing bytes rest i b total lt is none so_far =
    let more = flat_map escaped (drop (i + 1) bytes) in
    sym so_far ∙ ap (λ (f : List ℕ). behind_front f rest) (more_letters bytes i b lt is) ∙ behind_both (escaped b) more rest
    ∙ ap (λ (o : Option (List ℕ)). onward o (behind_front more)) none

pub letters_over : (bytes rest : List ℕ) (i : ℕ) (total : Option (List ℕ)) → length bytes ≤ i
    → behind_front (flat_map escaped (drop i bytes)) rest ≡ total → total ≡ Some rest
unfolding behind_front
letters_over bytes rest i total past so_far = sym so_far ∙ ap (λ (xs : List ℕ). behind_front (flat_map escaped xs) rest) (drop_all i bytes past)

-- the quotes around the letters
pub quotes_around : (bytes text : List ℕ) → behind_front (quoted bytes) text
    ≡ onward (onward (behind_front (codes "\"") text) (behind_front (flat_map escaped bytes))) (behind_front (codes "\""))
quotes_around bytes text =
    behind_both (codes "\"" ++ flat_map escaped bytes) (codes "\"") text
    ∙ ap (λ (o : Option (List ℕ)). onward o (behind_front (codes "\""))) (behind_both (codes "\"") (flat_map escaped bytes) text)

abbrev letters_of : List ℕ → List ℕ
letters_of bytes = flat_map escaped bytes

-- no quote stands at the front
pub no_quote : (bytes text : List ℕ) → None ≡ behind_front (codes "\"") text → None ≡ behind_front (quoted bytes) text
no_quote bytes text none =
    sym (quotes_around bytes text ∙ ap (λ (o : Option (List ℕ)). onward (onward o (behind_front (letters_of bytes))) (behind_front (codes "\""))) (sym none))

-- the letters don't stand behind it
pub no_letters : (bytes text l : List ℕ) → Some l ≡ behind_front (codes "\"") text → None ≡ behind_front (flat_map escaped bytes) l
    → None ≡ behind_front (quoted bytes) text
no_letters bytes text l one none =
    sym (quotes_around bytes text ∙ ap (λ (o : Option (List ℕ)). onward (onward o (behind_front (letters_of bytes))) (behind_front (codes "\""))) (sym one)
    ∙ ap (λ (o : Option (List ℕ)). onward o (behind_front (codes "\""))) (sym none))

-- what stands behind the closing quote, if it is there
pub closed_so : (bytes text l r : List ℕ) (o : Option (List ℕ)) → Some l ≡ behind_front (codes "\"") text → Some r ≡ behind_front (flat_map escaped bytes) l
    → o ≡ behind_front (codes "\"") r → o ≡ behind_front (quoted bytes) text
closed_so bytes text l r o one two three =
    three ∙ sym (quotes_around bytes text ∙ ap (λ (p : Option (List ℕ)). onward (onward p (behind_front (letters_of bytes))) (behind_front (codes "\""))) (sym one)
    ∙ ap (λ (p : Option (List ℕ)). onward p (behind_front (codes "\""))) (sym two))
