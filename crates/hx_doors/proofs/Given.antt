-- The first ones of a list, which were given, and the rest.
use Rattle.std.proofs.Common.{◌≡◌, ℕ, zero, suc, ◌+◌, List, [], ◌∷◌, ◌++◌, take, drop, map, add-one, ap, ◌∙◌}
use Rattle.std.proofs.lemmas.List.{map-append}

-- one more of the first ones
given_more : {A : Type 0} (xs : List A) (n : ℕ) (x : A) (rest : List A) → drop n xs ≡ x ∷ rest
    → (take (suc n) xs ≡ take n xs ++ x ∷ []) × (drop (suc n) xs ≡ rest)
given_more [] zero x rest e = absurd (cc)
given_more [] (suc n) x rest e = absurd (cc)
given_more (y ∷ ys) zero x rest e = let same : y ≡ x = cc in (ap (λ z. z ∷ []) same, cc)
given_more (y ∷ ys) (suc n) x rest e = let more = given_more ys n x rest e in (ap (λ l. y ∷ l) more.0, more.1)

pub take_given : {A : Type 0} (xs : List A) (n : ℕ) (x : A) (rest : List A) → drop n xs ≡ x ∷ rest → take (n + 1) xs ≡ take n xs ++ x ∷ []
take_given xs n x rest e = rw add-one (given_more xs n x rest e).0

pub drop_given : {A : Type 0} (xs : List A) (n : ℕ) (x : A) (rest : List A) → drop n xs ≡ x ∷ rest → drop (n + 1) xs ≡ rest
drop_given xs n x rest e = rw add-one (given_more xs n x rest e).1

-- what is told of one more
pub told_more : {A B : Type 0} (f : A → B) (xs : List A) (n : ℕ) (x : A) (rest : List A) → drop n xs ≡ x ∷ rest
    → map f (take (n + 1) xs) ≡ map f (take n xs) ++ f x ∷ []
told_more f xs n x rest e = ap (map f) (take_given xs n x rest e) ∙ map-append f (take n xs) (x ∷ [])
