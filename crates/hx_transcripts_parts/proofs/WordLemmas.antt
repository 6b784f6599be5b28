-- The next words of a line: what is read stands there, and what stands there is read.
use Rattle.std.proofs.Common.{◌≡◌, ℕ, suc, true, false, Bool, List, [], ◌∷◌, ◌++◌, length, take, drop, Option, Some, None, Result, Ok, Err, refl, sym, ap, subst, ◌∙◌, arith, inl, inr}
use Rattle.std.specs.Prelude.{◌==◌, not, bytes_eq, ⊤}
use Rattle.std.specs.List.{list_all, prefix_len}
use Rattle.std.proofs.lemmas.Bool.{eqb-true, cases_Bool, cond-true, cond-false, and_parts}
use Rattle.std.proofs.lemmas.Slice.Eq.{bytes_eq-Decides}
use Rattle.hx_transcripts_parts.specs.declared.fault.Rule.{Rule}
use Rattle.hx_transcripts_parts.specs.Faults.{◌>>=◌, unless, or_broken}
use Rattle.hx_transcripts_parts.specs.Lexical.{Rest, is_inside, behind_word, rest_text, word_at, read_word, is_word, at_end}
use Rattle.hx_transcripts_parts.specs.ReadBack.{ReadsWord, ReadsNext}

-- ---- results

pub ok_is : {A E : Type 0} (x y : A) → ◌≡◌ {A = Result A E} (Ok x) (Ok y) → x ≡ y
ok_is x y is = cc

pub bind_ok : {A B E : Type 0} (r : Result A E) (f : A → Result B E) (y : B) → (r >>= f) ≡ Ok y
    → (x : A) × (r ≡ Ok x) × (f x ≡ Ok y)
bind_ok (Ok x) f y is = (x, refl, is)
bind_ok (Err e) f y is = cc

pub bind_is : {A B E : Type 0} {r : Result A E} {x : A} (f : A → Result B E) → r ≡ Ok x → (r >>= f) ≡ f x
bind_is {A} {B} {E} f is = ap (λ (z : Result A E). z >>= f) is

pub there_is : {A : Type 0} (rule : Rule) (o : Option A) (x : A) → or_broken rule o ≡ Ok x → o ≡ Some x
there_is rule None x is = cc
there_is rule (Some y) x is = ap (λ (z : _). Some z) (ok_is y x is)

pub not_broken : (t : Bool) (rule : Rule) (x : ⊤) → unless t rule ≡ Ok x → t ≡ false
not_broken true rule x is = cc
not_broken false rule x is = refl

-- ---- one word

not_inside : (b : ℕ) → is_inside b ≡ false → b ≡ 32
not_inside b is = elim (cases_Bool (b == 32)) [
  | inl same ↦ eqb-true b 32 same
  | inr other ↦ absurd (let e : is_inside b ≡ true = ap not other in let f = sym is ∙ e in cc)
]

pub word_stands : (bs : List ℕ) → bs ≡ take (prefix_len is_inside bs) bs ++ rest_text (behind_word (drop (prefix_len is_inside bs) bs))
word_stands [] = refl
word_stands (b ∷ bs) = elim (cases_Bool (is_inside b)) [
  | inl within ↦
      let n : prefix_len is_inside (b ∷ bs) ≡ suc (prefix_len is_inside bs) = cond-true _ _ _ within ∙ omega arith in
      rw n (ap (λ (xs : List ℕ). b ∷ xs) (word_stands bs))
  | inr without ↦
      let n : prefix_len is_inside (b ∷ bs) ≡ 0 = cond-false _ _ _ without in
      rw n (ap (λ (x : ℕ). x ∷ bs) (not_inside b without))
]

word_sound : (ws : Rest) (w : List ℕ × Rest) → word_at ws ≡ Ok w → rest_text ws ≡ 32 ∷ w.0 ++ rest_text w.1
word_sound None w is = cc
word_sound (Some bs) w is = subst (λ (x : List ℕ × Rest). 32 ∷ bs ≡ 32 ∷ x.0 ++ rest_text x.1) (ok_is _ w is) (ap (λ (xs : List ℕ). 32 ∷ xs) (word_stands bs))

word_cut : (w : List ℕ) (rest : Rest) → list_all is_inside w ≡ true → prefix_len is_inside (w ++ rest_text rest) ≡ length w
word_cut [] None each = refl
word_cut [] (Some bs) each = refl
word_cut (b ∷ w) rest each =
    let parts = and_parts (is_inside b) (list_all is_inside w) each in
    let more = word_cut w rest parts.1 in
    cond-true _ _ _ parts.0 ∙ omega (arith, more)

front_of : (w xs : List ℕ) → take (length w) (w ++ xs) ≡ w
front_of [] xs = refl
front_of (b ∷ w) xs = ap (λ (ys : List ℕ). b ∷ ys) (front_of w xs)

back_of : (w xs : List ℕ) → drop (length w) (w ++ xs) ≡ xs
back_of [] xs = refl
back_of (b ∷ w) xs = back_of w xs

behind_rest : (rest : Rest) → behind_word (rest_text rest) ≡ rest
behind_rest None = refl
behind_rest (Some bs) = refl

pub word_whole : (w : List ℕ) (rest : Rest) → list_all is_inside w ≡ true → word_at (Some (w ++ rest_text rest)) ≡ Ok (w, rest)
word_whole w rest each =
    let n = word_cut w rest each in
    rw n (rw (front_of w (rest_text rest), back_of w (rest_text rest), behind_rest rest) refl)

-- a word that is read back stands between blanks
pub word_reads : {X : Type 0} (read : List ℕ → Result X Rule) (text : X → List ℕ) (Fits : X → Type 0)
    → ReadsWord read text Fits → ReadsNext (read_word read) text Fits
word_reads {X} read text Fits h = record {
  sound = λ ws y is.
      let a = bind_ok (word_at ws) _ y is in
      let b = bind_ok (read a.0.0) _ y a.2 in
      let one = h.sound a.0.0 b.0 b.1 in
      let stands = word_sound ws a.0 a.1 ∙ ap (λ (w : List ℕ). 32 ∷ w ++ rest_text a.0.1) one.1 in
      subst (λ (z : X × Rest). Fits z.0 × (rest_text ws ≡ 32 ∷ text z.0 ++ rest_text z.1)) (ok_is (b.0, a.0.1) y b.2) (one.0, stands);
  whole = λ x rest fits. (
    Some (text x ++ rest_text rest),
    refl,
    bind_is (λ (w : List ℕ × Rest). read w.0 >>= λ v. Ok (v, w.1)) (word_whole (text x) rest (h.inside x fits))
        ∙ bind_is (λ (v : X). Ok (v, rest)) (h.whole x fits),
  );
}

-- nothing is left
pub end_sound : (ws : Rest) (x : ⊤) → at_end ws ≡ Ok x → rest_text ws ≡ []
end_sound None x is = refl
end_sound (Some bs) x is = cc

-- ---- words that are written out

off : (t : Bool) → not t ≡ false → t ≡ true
off true is = refl
off false is = cc

pub word_is : (expected : List ℕ) → list_all is_inside expected ≡ true → ReadsWord (is_word expected) (λ (x : ⊤). expected) (λ (x : ⊤). ⊤)
word_is expected each = record {
  sound = λ w x is. (tt, (bytes_eq-Decides w expected).0 (off (bytes_eq w expected) (not_broken _ _ x is)));
  whole = λ x fits. rw ((bytes_eq-Decides expected expected).1 refl) refl;
  inside = λ x fits. each;
}
