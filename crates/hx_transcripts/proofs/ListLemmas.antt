-- Lists that grow at their end.
use Rattle.std.proofs.Common.{◌≡◌, ℕ, suc, ◌-◌, Bool, true, false, List, [], ◌∷◌, ◌++◌, All, length, Some, refl, sym, ap, ◌∙◌, arith, inl, inr, append_assoc}
use Rattle.std.specs.Prelude.{◌==◌, ◌&&◌, ◌||◌, not, nat_lt, slice_get}
use Rattle.std.specs.List.{flat_map}
use Rattle.std.proofs.lemmas.Bool.{cases_Bool, and_parts, eqb-true, ltb-true}
use Rattle.std.proofs.lemmas.List.{flat_map_more}
use Rattle.std.proofs.lemmas.List.Elements.{All-nil, All-cons, All-head, All-tail}
use Rattle.hx_script.specs.declared.transcript.ServerPart.{ServerPart}
use Rattle.hx_script.specs.LinkLines.{totals_lines}
use Rattle.hx_script.specs.PrintedForm.{Rises, PairBefore}
use Rattle.hx_transcripts.specs.Links.{is_before, last_of}

pub all_front : {A : Type 0} (P : A → Type 0) (xs : List A) (y : A) → All P (xs ++ y ∷ []) → All P xs
all_front P [] y h = All-nil P
all_front P (x ∷ xs) y h = All-cons P x xs (All-head P x (xs ++ y ∷ []) h) (all_front P xs y (All-tail P x (xs ++ y ∷ []) h))

pub all_last : {A : Type 0} (P : A → Type 0) (xs : List A) (y : A) → All P (xs ++ y ∷ []) → P y
all_last P [] y h = All-head P y [] h
all_last P (x ∷ xs) y h = all_last P xs y (All-tail P x (xs ++ y ∷ []) h)

-- one more at the end
pub more : {A : Type 0} (front head : List ℕ) (f : A → List ℕ) (xs : List A) (x : A)
    → front ++ (head ++ flat_map f (xs ++ x ∷ [])) ≡ (front ++ (head ++ flat_map f xs)) ++ f x
more front head f xs x =
    ap (λ (t : List ℕ). front ++ t) (sym (flat_map_more f head xs x)) ∙ sym (append_assoc front (head ++ flat_map f xs) (f x))

-- the last of more than one
pub last_later : {A : Type 0} (a b : A) (xs : List A) → last_of (a ∷ b ∷ xs) ≡ last_of (b ∷ xs)
last_later a b xs =
    let m : length (a ∷ b ∷ xs) - 1 ≡ suc (length (b ∷ xs) - 1) = omega arith in
    ap (slice_get (a ∷ b ∷ xs)) m

pub rises_pushed : {A : Type 0} (Before : A → A → Type 0) (xs : List A) (x : A) → ((y : A) → last_of xs ≡ Some y → Before y x)
    → Rises Before xs → Rises Before (xs ++ x ∷ [])
rises_pushed Before [] x last rise = tt
rises_pushed Before (a ∷ []) x last rise = (last a refl, tt)
rises_pushed Before (a ∷ b ∷ xs) x last rise = (rise.0, rises_pushed Before (b ∷ xs) x (λ y is. last y (last_later a b xs ∙ is)) rise.1)

pub pair_before : (a b c d : ℕ) → is_before a b c d ≡ true → PairBefore a b c d
pair_before a b c d is = elim (cases_Bool (nat_lt a c)) [
  | inl less ↦ inl (ltb-true a c less)
  | inr more ↦
      let e : ((a == c) && nat_lt b d) ≡ true = sym (ap (λ (t : Bool). t || ((a == c) && nat_lt b d)) more) ∙ is in
      let parts = and_parts (a == c) (nat_lt b d) e in
      inr (eqb-true a c parts.0, ltb-true b d parts.1)
]

pub on : (t : Bool) → not t ≡ false → t ≡ true
on true is = refl
on false is = cc

pub no_totals : (servers : List ServerPart) → totals_lines servers [] ≡ []
no_totals [] = refl
no_totals (p ∷ servers) = refl
