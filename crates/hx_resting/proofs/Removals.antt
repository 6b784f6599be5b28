-- A value is removed from the row.
use Rattle.std.proofs.Common.{◌≡◌, ℕ, zero, suc, List, [], ◌∷◌, ◌++◌, length, refl, sym, ap, ◌∙◌, get_or, take, drop, map}
use Rattle.hx_base.specs.Shown.{Shown}
use Rattle.hx_resting.specs.declared.values.Rest.{Rest}
use Rattle.hx_resting.specs.Rows.{Rested, rests_of}

abbrev without : {A : Type 0} → List A → ℕ → List A
without xs i = take i xs ++ drop (suc i) xs

without-map : {A B : Type 0} (f : A → B) (xs : List A) (i : ℕ) → map f (without xs i) ≡ without (map f xs) i
without-map f [] zero = refl
without-map f [] (suc i) = refl
without-map f (x ∷ xs) zero = refl
without-map f (x ∷ xs) (suc i) = ap (λ l. f x ∷ l) (without-map f xs i)

without-mid : {A : Type 0} (ws : List A) (x : A) (zs : List A) → without (ws ++ x ∷ zs) (length ws) ≡ ws ++ zs
without-mid [] x zs = refl
without-mid (w ∷ ws) x zs = ap (λ l. w ∷ l) (without-mid ws x zs)

get-mid : {A : Type 0} (ws : List A) (x : A) (zs : List A) (d : A) → get_or (ws ++ x ∷ zs) (length ws) d ≡ x
get-mid [] x zs d = refl
get-mid (w ∷ ws) x zs d = get-mid ws x zs d

get-map : {A B : Type 0} (f : A → B) (xs : List A) (i : ℕ) (d : A) → get_or (map f xs) i (f d) ≡ f (get_or xs i d)
get-map f [] i d = refl
get-map f (x ∷ xs) zero d = refl
get-map f (x ∷ xs) (suc i) d = get-map f xs i d

-- what is removed at the index, and what is left
pub removed : {V : Type 0} (shows : V → Shown) (xs : List (Rest V)) (i : ℕ) (r : Rest V) (ws : List Rested) (x : Rested) (zs : List Rested) → rests_of shows xs ≡ ws ++ x ∷ zs → length ws ≡ i → r ≡ get_or xs i r
    → (x ≡ record { place = r.place; shown = shows r.v }) × (rests_of shows (take i xs ++ drop (suc i) xs) ≡ ws ++ zs)
removed {V} shows xs i r ws x zs e len is =
    let f : Rest V → Rested = λ y. record { place = y.place; shown = shows y.v } in (
      sym (get-mid ws x zs (f r)) ∙ (ap (λ j. get_or (ws ++ x ∷ zs) j (f r)) len ∙ (ap (λ l. get_or l i (f r)) (sym e) ∙ (get-map f xs i r ∙ ap f (sym is)))),
      without-map f xs i ∙ (ap (λ l. without l i) e ∙ (ap (λ j. without (ws ++ x ∷ zs) j) (sym len) ∙ without-mid ws x zs)),
    )
