-- Numbers that rise, and the values that are listed under them.
use Rattle.std.proofs.Common.{◌≡◌, ℕ, zero, suc, ◌<◌, List, [], ◌∷◌, ◌++◌, length, refl, ap, ◌∙◌, subst, arith, Option, Some, None, IsSome, sym, eq-eqb, ne_eqb}
use Rattle.std.specs.Prelude.{if◌then◌else◌}
use Rattle.hx_numbered.specs.Numbers.{AreAbove, AreBelow, IsRising, IsAt, number_at, value_of}
use Rattle.hx_numbered.specs.Listed.{under, with_number, listed, AreFilled}

pub above_less : {T : Type 0} (m n : ℕ) (items : List (ℕ × T)) → m < n → AreAbove n items → AreAbove m items
above_less m n [] low a = tt
above_less m n (x ∷ items) low a = let b = a.0 in (omega arith, above_less m n items low a.1)

pub above_at : (m : ℕ) (order : List (ℕ × ℕ)) (i : ℕ) → AreAbove m order → i < length order → m < number_at order i
above_at m [] i a low = absurd (omega (arith, low))
above_at m (p ∷ order) zero a low = a.0
above_at m (p ∷ order) (suc i) a low = above_at m order i a.1 (omega (arith, low))

-- the numbers at two places
pub rising_at : (order : List (ℕ × ℕ)) (i j : ℕ) → IsRising order → i < j → j < length order → number_at order i < number_at order j
rising_at [] i j r less low = absurd (omega (arith, low))
rising_at (p ∷ order) i zero r less low = absurd (omega (arith, less))
rising_at (p ∷ order) zero (suc j) r less low = above_at p.0 order j r.0 (omega (arith, low))
rising_at (p ∷ order) (suc i) (suc j) r less low = rising_at order i j r.1 (omega (arith, less)) (omega (arith, low))

pub at_rest : (p : ℕ × ℕ) (order : List (ℕ × ℕ)) (n i : ℕ) → IsAt (p ∷ order) n (suc i) → IsAt order n i
at_rest p order n i a = record { in_range = omega (arith, a.in_range); has = a.has }

-- a number that comes later is greater than the first
pub later_above : (p : ℕ × ℕ) (order : List (ℕ × ℕ)) (n i : ℕ) → IsRising (p ∷ order) → IsAt (p ∷ order) n (suc i) → p.0 < n
later_above p order n i r a =
    let b = at_rest p order n i a in
    subst (λ k. p.0 < k) b.has (above_at p.0 order i r.0 b.in_range)

pub some_there : {T : Type 0} (o : Option T) → IsSome o → (v : T) × (o ≡ Some v)
some_there None i = cc
some_there (Some v) i = (v, refl)

-- the first of the list
pub first_is : {T : Type 0} (slots : List (Option T)) (p : ℕ × ℕ) (order : List (ℕ × ℕ)) (v : T) → under slots p.1 ≡ Some v → listed slots (p ∷ order) ≡ (p.0, v) ∷ listed slots order
first_is {T} slots p order v e = ap (λ (o : Option T). with_number p.0 o ++ listed slots order) e

pub value_here : {T : Type 0} (x : ℕ × T) (items : List (ℕ × T)) (n : ℕ) → x.0 ≡ n → value_of (x ∷ items) n ≡ Some x.1
value_here x items n e = ap (λ b. if b then Some x.1 else value_of items n) (eq-eqb x.0 n e)

pub value_past : {T : Type 0} (x : ℕ × T) (items : List (ℕ × T)) (n : ℕ) → (x.0 ≡ n → ⊥) → value_of (x ∷ items) n ≡ value_of items n
value_past x items n ne = ap (λ b. if b then Some x.1 else value_of items n) (ne_eqb x.0 n ne)

-- what is listed has the numbers of the order
pub listed_above : {T : Type 0} (m : ℕ) (slots : List (Option T)) (order : List (ℕ × ℕ)) → AreFilled slots order → AreAbove m order → AreAbove m (listed slots order)
listed_above m slots [] f a = tt
listed_above {T} m slots (p ∷ order) f a =
    let v = some_there (under slots p.1) f.0 in
    subst (λ (l : List (ℕ × T)). AreAbove m l) (sym (first_is slots p order v.0 v.1)) (a.0, listed_above m slots order f.1 a.1)

pub listed_rising : {T : Type 0} (slots : List (Option T)) (order : List (ℕ × ℕ)) → AreFilled slots order → IsRising order → IsRising (listed slots order)
listed_rising slots [] f r = tt
listed_rising {T} slots (p ∷ order) f r =
    let v = some_there (under slots p.1) f.0 in
    subst (λ (l : List (ℕ × T)). IsRising l) (sym (first_is slots p order v.0 v.1)) (listed_above p.0 slots order f.1 r.0, listed_rising slots order f.1 r.1)

pub listed_count : {T : Type 0} (slots : List (Option T)) (order : List (ℕ × ℕ)) → AreFilled slots order → length (listed slots order) ≡ length order
listed_count slots [] f = refl
listed_count {T} slots (p ∷ order) f =
    let v = some_there (under slots p.1) f.0 in
    ap (λ (l : List (ℕ × T)). length l) (first_is slots p order v.0 v.1) ∙ ap suc (listed_count slots order f.1)

-- what stands below a number in the list stands below it in the order
pub order_below : {T : Type 0} (slots : List (Option T)) (order : List (ℕ × ℕ)) (n : ℕ) → AreFilled slots order → AreBelow (listed slots order) n → AreBelow order n
order_below slots [] n f b = tt
order_below {T} slots (p ∷ order) n f b =
    let v = some_there (under slots p.1) f.0 in
    let c : AreBelow ((p.0, v.0) ∷ listed slots order) n = subst (λ (l : List (ℕ × T)). AreBelow l n) (first_is slots p order v.0 v.1) b in
    (c.0, order_below slots order n f.1 c.1)

-- a greater number at the end
pub above_more : (m : ℕ) (order : List (ℕ × ℕ)) (q : ℕ × ℕ) → m < q.0 → AreAbove m order → AreAbove m (order ++ q ∷ [])
above_more m [] q low a = (low, tt)
above_more m (p ∷ order) q low a = (a.0, above_more m order q low a.1)

pub rising_more : (order : List (ℕ × ℕ)) (q : ℕ × ℕ) → AreBelow order q.0 → IsRising order → IsRising (order ++ q ∷ [])
rising_more [] q b r = (tt, tt)
rising_more (p ∷ order) q b r = (above_more p.0 order q b.0 r.0, rising_more order q b.1 r.1)
