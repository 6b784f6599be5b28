-- The seats of a worker.
use Rattle.std.proofs.Common.{◌≡◌, ◌<◌, ℕ, zero, suc, List, [], ◌∷◌, length, map, get_or, refl, Some, arith}
use Rattle.std.specs.List.{slice_get}

-- the seat with this number
pub seat_at : {A B : Type 0} (f : A → B) (xs : List A) (i : ℕ) (h : B) (d : A) → slice_get (map f xs) i ≡ Some h → slice_get (map f xs) i ≡ Some (f (get_or xs i d))
seat_at f [] i h d e = cc
seat_at f (x ∷ xs) zero h d e = refl
seat_at f (x ∷ xs) (suc i) h d e = seat_at f xs i h d e

pub seat_here : {A B : Type 0} (f : A → B) (xs : List A) (i : ℕ) (d : A) → i < length xs → slice_get (map f xs) i ≡ Some (f (get_or xs i d))
seat_here f [] i d low = absurd (omega (arith, low))
seat_here f (x ∷ xs) zero d low = refl
seat_here f (x ∷ xs) (suc i) d low = seat_here f xs i d (omega (arith, low))

pub seat_below : {A B : Type 0} (f : A → B) (xs : List A) (i : ℕ) (h : B) → slice_get (map f xs) i ≡ Some h → i < length xs
seat_below f [] i h e = cc
seat_below f (x ∷ xs) zero h e = omega arith
seat_below f (x ∷ xs) (suc i) h e = omega (arith, seat_below f xs i h e)
