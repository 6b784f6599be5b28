-- A function that is changed at one number, the items of a giver, and a list with one more behind it.
use Rattle.std.proofs.Common.{◌≡◌, ◌≢◌, ◌⊎◌, ℕ, zero, suc, Bool, cond, List, [], ◌∷◌, ◌++◌, length, Option, Some, None, eqb, eq-eqb, ne_eqb, inl, inr, ⊎_elim, sym, refl, ap, ◌∙◌}
use mathlib.Core.Option.{some, some-injective, some-ne-none}
use mathlib.Core.Logic.{dite}
use native.Mathlib.Decide.{ℕ_discrete}
use lib.ListN.{get_elem?}
use Rattle.std.proofs.lemmas.List.{append-nil}
use Rattle.std.proofs.lemmas.List.Elements.{filter_map-append}
use Rattle.hx_handoff.specs.declared.rule.Handed.{Handed}
use Rattle.hx_handoff.specs.Lanes.{item_of, items_of}

pub none_is_some : {A : Type 0} (x : A) (o : Option A) → o ≡ None → o ≡ Some x → ⊥
none_is_some x o e f = cc

pub same_some : {A : Type 0} (x y : A) (o : Option A) → o ≡ Some x → o ≡ Some y → x ≡ y
same_some x y o e f = cc

-- f, but y at n
abbrev pub at : {A : Type 0} → (ℕ → A) → ℕ → A → ℕ → A
at f n y k = cond (eqb k n) y (f k)

pub at_here : {A : Type 0} (f : ℕ → A) (n : ℕ) (y : A) (k : ℕ) → k ≡ n → at f n y k ≡ y
at_here f n y k is = ap (λ (b : Bool). cond b y (f k)) (eq-eqb k n is)

pub at_else : {A : Type 0} (f : ℕ → A) (n : ℕ) (y : A) (k : ℕ) → k ≢ n → at f n y k ≡ f k
at_else f n y k ne = ap (λ (b : Bool). cond b y (f k)) (ne_eqb k n ne)

pub by_cases : (k n : ℕ) (P : Type 0) → (k ≡ n → P) → (k ≢ n → P) → P
by_cases k n P hit miss = dite (ℕ_discrete k n) hit miss

-- the last of a longer list
pub at_end : {A : Type 0} (l : List A) (a b : A) (j : ℕ) → get_elem? (l ++ a ∷ []) j ≡ some b → (get_elem? l j ≡ some b) ⊎ ((j ≡ length l) × (a ≡ b))
at_end [] a b zero e = inr (refl, some-injective a b e)
at_end [] a b (suc j) e = absurd (some-ne-none b (sym e))
at_end (x ∷ xs) a b zero e = inl e
at_end (x ∷ xs) a b (suc j) e = ⊎_elim (λ h. inl h) (λ h. inr (ap suc h.0, h.1)) (at_end xs a b j e)

module _ {T : Type 0} where
  pub item_here : (g : ℕ) (h : Handed T) → h.giver ≡ g → items_of g (h ∷ []) ≡ h.item ∷ []
  item_here g h is = rw (eq-eqb h.giver g is) refl

  pub item_else : (g : ℕ) (h : Handed T) → h.giver ≢ g → items_of g (h ∷ []) ≡ []
  item_else g h ne = rw (ne_eqb h.giver g ne) refl

  pub items_more : (g : ℕ) (xs ys : List (Handed T)) → items_of g (xs ++ ys) ≡ items_of g xs ++ items_of g ys
  items_more g xs ys = filter_map-append (item_of g) xs ys

  -- one item more behind what was handed in
  pub handed_on : (g n : ℕ) (zs : List (Handed T)) (h : Handed T) (sent : ℕ → List T) → h.giver ≡ n → items_of g zs ≡ sent g
      → items_of g (zs ++ h ∷ []) ≡ at sent n (sent n ++ h.item ∷ []) g
  handed_on g n zs h sent by is = by_cases g n _
      (λ here. items_more g zs (h ∷ []) ∙ (ap (λ l. items_of g zs ++ l) (item_here g h (by ∙ sym here))
      ∙ (ap (λ l. l ++ h.item ∷ []) (is ∙ ap sent here) ∙ sym (at_here sent n (sent n ++ h.item ∷ []) g here))))
      (λ apart. items_more g zs (h ∷ []) ∙ (ap (λ l. items_of g zs ++ l) (item_else g h (λ e. apart (sym e ∙ by)))
      ∙ (append-nil (items_of g zs) ∙ (is ∙ sym (at_else sent n (sent n ++ h.item ∷ []) g apart)))))
