-- One item more in a table of first items.
use Rattle.std.proofs.Common.{◌≡◌, ℕ, ◌+◌, ◌<◌, ◌==◌, ◌&&◌, Bool, true, false, cond, List, [], ◌∷◌, ◌++◌, Option, None, Some, length, take, get_or, refl, sym, ap, ◌∙◌, subst, arith}
use Rattle.std.specs.Prelude.{find, slice_get}
use Rattle.std.specs.Option.{option_or}
use Rattle.std.proofs.lemmas.List.{take_more}
use Rattle.std.proofs.lemmas.List.Folds.{find-append}
use Rattle.std.proofs.lemmas.Option.{slice_get-get_or}
use Rattle.hx_check_parts.specs.Found.{IsFoundIn}

module _ {A : Type 0} (p : A → Bool) (xs : List A) (i : ℕ) (d : A) (within : i < length xs) where
  find_more : find p (take (i + 1) xs) ≡ option_or (find p (take i xs)) (find p (get_or xs i d ∷ []))
  find_more = ap (find p) (take_more xs i d within) ∙ find-append p (take i xs) (get_or xs i d ∷ [])

  new_item : (b : Bool) → p (get_or xs i d) ≡ b → find p (take i xs) ≡ None → IsFoundIn p xs (i + 1) (cond b (Some i) None)
  new_item true passes nothing = (
    find_more ∙ rw nothing (rw passes (sym (slice_get-get_or xs i d within))),
    omega arith,
  )
  new_item false passes nothing = find_more ∙ rw nothing (rw passes refl)

  old_item : (j : ℕ) → find p (take i xs) ≡ slice_get xs j → j < i → find p (take (i + 1) xs) ≡ slice_get xs j
  old_item j is below =
      let there = slice_get-get_or xs j d (omega (arith, below, within)) in
      find_more ∙ ap (λ (o : Option A). option_or o (find p (get_or xs i d ∷ []))) (is ∙ there) ∙ sym there

  pub more_found : (o : Option ℕ) → IsFoundIn p xs i o → IsFoundIn p xs (i + 1) (option_or o (cond (p (get_or xs i d)) (Some i) None))
  more_found None nothing = new_item (p (get_or xs i d)) refl nothing
  more_found (Some j) (is, below) = (old_item j is below, omega (arith, below))

-- the numbers of a key, in either order
pub swapped : (a b x y : ℕ) → (x == a && y == b) ≡ (a == x && b == y)
swapped a b x y = grind arith
