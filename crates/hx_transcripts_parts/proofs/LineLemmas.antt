-- Words that follow each other are read one after the other.
use Rattle.std.proofs.Common.{◌≡◌, ℕ, List, [], ◌∷◌, ◌++◌, Result, Ok, sym, ap, subst, ◌∙◌, append_assoc}
use Rattle.std.specs.Prelude.{codes, ⊤}
use Rattle.hx_transcripts_parts.specs.declared.fault.Rule.{Rule}
use Rattle.hx_transcripts_parts.specs.Faults.{◌>>=◌}
use Rattle.hx_transcripts_parts.specs.Lexical.{Rest, rest_text, at_end}
use Rattle.hx_transcripts_parts.specs.ReadBack.{ReadsNext}
use Rattle.hx_transcripts_parts.proofs.WordLemmas.{ok_is, bind_ok, bind_is, end_sound}

-- the first value that was read, and what is read behind it
pub record IsNext {X Y : Type 0} (text : X → List ℕ) (Fits : X → Type 0) (ws : Rest) (go : X × Rest → Result Y Rule) (y : Y) : Type 0 where
  pub x : X
  pub rest : Rest
  pub fits : Fits x
  pub stands : rest_text ws ≡ 32 ∷ (text x ++ rest_text rest)
  pub more : go (x, rest) ≡ Ok y

pub next_sound : {X Y : Type 0} (read : Rest → Result (X × Rest) Rule) (text : X → List ℕ) (Fits : X → Type 0) → ReadsNext read text Fits
    → (ws : Rest) (go : X × Rest → Result Y Rule) (y : Y) → (read ws >>= go) ≡ Ok y → IsNext text Fits ws go y
next_sound read text Fits h ws go y is =
    let x = bind_ok (read ws) go y is in
    let one = h.sound ws x.0 x.1 in
    record { x = x.0.0; rest = x.0.1; fits = one.0; stands = one.1; more = x.2 }

-- nothing is left, and this was read
pub last_sound : {Y : Type 0} (ws : Rest) (x y : Y) → (at_end ws >>= λ e. Ok x) ≡ Ok y → (rest_text ws ≡ []) × (x ≡ y)
last_sound ws x y is =
    let e = bind_ok (at_end ws) (λ (u : ⊤). Ok x) y is in
    (end_sound ws e.0 e.1, ok_is x y e.2)

regroup : (a b r : List ℕ) → a ++ (32 ∷ b ++ r) ≡ a ++ codes " " ++ b ++ r
regroup a b r = simp append_assoc

-- two values, one after the other, are one
pub two_read : {X Y Z : Type 0} (read : Rest → Result (X × Rest) Rule) (text : X → List ℕ) (Fits : X → Type 0)
    (read' : Rest → Result (Y × Rest) Rule) (text' : Y → List ℕ) (Fits' : Y → Type 0) (put : X → Y → Z) (one : Z → X) (other : Z → Y)
    → ((z : Z) → put (one z) (other z) ≡ z) → ((x : X) (y : Y) → one (put x y) ≡ x) → ((x : X) (y : Y) → other (put x y) ≡ y)
    → ReadsNext read text Fits → ReadsNext read' text' Fits'
    → ReadsNext (λ ws. read ws >>= λ x. read' x.1 >>= λ y. Ok (put x.0 y.0, y.1)) (λ z. text (one z) ++ codes " " ++ text' (other z)) (λ z. Fits (one z) × Fits' (other z))
two_read {X} {Y} {Z} read text Fits read' text' Fits' put one other whole left right h k = record {
  sound = λ ws z is.
      let a = next_sound read text Fits h ws (λ (x : X × Rest). read' x.1 >>= λ y. Ok (put x.0 y.0, y.1)) z is in
      let b = next_sound read' text' Fits' k a.rest (λ (y : Y × Rest). Ok (put a.x y.0, y.1)) z a.more in
      let stands : rest_text ws ≡ 32 ∷ (text a.x ++ codes " " ++ text' b.x) ++ rest_text b.rest =
      a.stands ∙ ap (λ (t : List ℕ). 32 ∷ (text a.x ++ t)) b.stands ∙ ap (λ (t : List ℕ). 32 ∷ t) (regroup (text a.x) (text' b.x) (rest_text b.rest)) in
      subst (λ (v : Z × Rest). (Fits (one v.0) × Fits' (other v.0)) × (rest_text ws ≡ 32 ∷ (text (one v.0) ++ codes " " ++ text' (other v.0)) ++ rest_text v.1)) (ok_is (put a.x b.x, b.rest) z b.more) (
        (subst Fits (sym (left a.x b.x)) a.fits, subst Fits' (sym (right a.x b.x)) b.fits),
        stands ∙ ap (λ (x : X). 32 ∷ (text x ++ codes " " ++ text' b.x) ++ rest_text b.rest) (sym (left a.x b.x))
            ∙ ap (λ (y : Y). 32 ∷ (text (one (put a.x b.x)) ++ codes " " ++ text' y) ++ rest_text b.rest) (sym (right a.x b.x)),
      );
  whole = λ z rest fits.
      let b = k.whole (other z) rest fits.1 in
      let a = h.whole (one z) b.0 fits.0 in (
        a.0,
        a.1 ∙ ap (λ (t : List ℕ). 32 ∷ (text (one z) ++ t)) b.1 ∙ ap (λ (t : List ℕ). 32 ∷ t) (regroup (text (one z)) (text' (other z)) (rest_text rest)),
        bind_is (λ (x : X × Rest). read' x.1 >>= λ y. Ok (put x.0 y.0, y.1)) a.2
            ∙ bind_is (λ (y : Y × Rest). Ok (put (one z) y.0, y.1)) b.2 ∙ ap (λ (v : Z). Ok (v, rest)) (whole z),
      );
}

-- a value behind its label
pub label_read : {X : Type 0} (label : List ℕ) (read : Rest → Result (⊤ × Rest) Rule) (read' : Rest → Result (X × Rest) Rule) (text : X → List ℕ) (Fits : X → Type 0)
    → ReadsNext read (λ x. label) (λ x. ⊤) → ReadsNext read' text Fits
    → ReadsNext (λ ws. read ws >>= λ l. read' l.1) (λ x. label ++ codes " " ++ text x) Fits
label_read {X} label read read' text Fits h k = record {
  sound = λ ws y is.
      let a = next_sound read (λ x. label) (λ x. ⊤) h ws (λ (l : ⊤ × Rest). read' l.1) y is in
      let b = k.sound a.rest y a.more in
      (b.0, a.stands ∙ ap (λ (t : List ℕ). 32 ∷ (label ++ t)) b.1 ∙ ap (λ (t : List ℕ). 32 ∷ t) (regroup label (text y.0) (rest_text y.1)));
  whole = λ x rest fits.
      let b = k.whole x rest fits in
      let a = h.whole tt b.0 tt in (
        a.0,
        a.1 ∙ ap (λ (t : List ℕ). 32 ∷ (label ++ t)) b.1 ∙ ap (λ (t : List ℕ). 32 ∷ t) (regroup label (text x) (rest_text rest)),
        bind_is (λ (l : ⊤ × Rest). read' l.1) a.2 ∙ b.2,
      );
}
