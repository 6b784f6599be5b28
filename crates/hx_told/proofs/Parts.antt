-- Servers with the journals of their seats.
use Rattle.std.proofs.Common.{◌≡◌, ℕ, ◌+◌, ◌<◌, List, [], ◌∷◌, ◌++◌, length, drop, sym, ap, ◌∙◌, subst, append_assoc, arith, refl, zero, suc, get_or, Some}
use Rattle.std.specs.Prelude.{slice_get}
use Rattle.std.proofs.lemmas.List.{drop_more}
use Rattle.hx_pool.specs.Journal.{Journal}
use Rattle.hx_script.specs.declared.transcript.ServerPart.{ServerPart}
use Rattle.hx_told.specs.declared.servers.Named.{Named}
use Rattle.hx_told.specs.Servers.{part_of, parts_of}

some_is : {A : Type 0} (a b : A) → Some a ≡ Some b → a ≡ b
some_is a b e = cc

pub got_drops : {A : Type 0} (xs : List A) (n : ℕ) (x : A) → slice_get xs n ≡ Some x → drop n xs ≡ x ∷ drop (n + 1) xs
got_drops {A = A} [] n x e = absurd (cc)
got_drops {A = A} (y ∷ xs) zero x e = ap (λ (z : A). z ∷ xs) (some_is y x e)
got_drops {A = A} (y ∷ xs) (suc n) x e =
    let next : suc (n + 1) ≡ suc n + 1 = omega arith in
    subst (λ (k : ℕ). drop n xs ≡ x ∷ drop k (y ∷ xs)) next (got_drops xs n x e)

pub got_below : {A : Type 0} (xs : List A) (n : ℕ) (x : A) → slice_get xs n ≡ Some x → n < length xs
got_below [] n x e = absurd (cc)
got_below (y ∷ xs) zero x e = omega arith
got_below (y ∷ xs) (suc n) x e = omega (arith, got_below xs n x e)

-- one more
pub parts_more : (all done : List ServerPart) (n : Named) (names : List Named) (seats : List Journal) (j : Journal) (at : ℕ)
    → all ≡ done ++ parts_of (n ∷ names) (drop at seats) → at < length seats → j ≡ get_or seats at j
    → all ≡ (done ++ part_of n j ∷ []) ++ parts_of names (drop (at + 1) seats)
parts_more all done n names seats j at so low is =
    so ∙ ap (λ (js : List Journal). done ++ parts_of (n ∷ names) js) (drop_more seats at j low ∙ ap (λ (k : Journal). k ∷ drop (at + 1) seats) (sym is))
    ∙ sym (append_assoc done (part_of n j ∷ []) (parts_of names (drop (at + 1) seats)))

pub no_items : {A : Type 0} (xs : List A) → length xs ≡ 0 → xs ≡ []
no_items [] e = refl
no_items (x ∷ xs) e = absurd (omega arith)
