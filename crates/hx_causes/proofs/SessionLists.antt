-- Which sessions are there behind a step.
use Rattle.std.proofs.Common.{◌≡◌, ◌⊎◌, inl, inr, ⊎_elim, ℕ, suc, ◌++◌, Bool, true, false, List, [], ◌∷◌, refl, sym, ap, ◌∙◌, subst, arith, Option, Some, eq-eqb, ne_eqb}
use Rattle.std.specs.Prelude.{Contains, if◌then◌else◌, ◌==◌}
use Rattle.std.proofs.lemmas.List.Elements.{Contains-append_cases}
use mathlib.Core.Logic.{dite}
use native.Mathlib.Decide.{ℕ_discrete}
use Rattle.hx_connecting.specs.Sessions.{SessionNow}
use Rattle.hx_course.proofs.Numbers.{some_is}
use Rattle.hx_course.proofs.TableLemmas.{none_in, one_in}
use Rattle.hx_worker.proofs.ByNumber.{session_here, session_past}
use Rattle.hx_worker.specs.Steps.{placed}
use Rattle.hx_worker.specs.Workers.{session_of}

pub first_in : {A : Type 0} (x : A) (xs : List A) → Contains (x ∷ xs) x
first_in x xs = (0, omega arith, refl)

pub next_in : {A : Type 0} (y : A) (xs : List A) (x : A) → Contains xs x → Contains (y ∷ xs) x
next_in y xs x h = (suc h.0, omega (arith, h.1), h.2)

pub either_in : {A : Type 0} (x : A) (xs : List A) (y : A) → Contains (x ∷ xs) y → (x ≡ y) ⊎ Contains xs y
either_in x xs y h = ⊎_elim (λ (k : Contains (x ∷ []) y). inl (one_in x y k)) (λ (k : Contains xs y). inr k) (Contains-append_cases (x ∷ []) xs y h)

-- the session of a number is there
pub found_in : (ss : List SessionNow) (n : ℕ) (s : SessionNow) → session_of ss n ≡ Some s → Contains ss s
found_in [] n s e = cc
found_in (x ∷ rest) n s e = dite (ℕ_discrete x.number.0 n)
    (λ (is : x.number.0 ≡ n). subst (λ (y : SessionNow). Contains (x ∷ rest) y) (some_is x s (sym (session_here x rest n is) ∙ e)) (first_in x rest))
    (λ ne. next_in x rest s (found_in rest n s (sym (session_past x rest n ne) ∙ e)))

placed_same : (s : SessionNow) (rest : List SessionNow) (a : SessionNow) → s.number.0 ≡ a.number.0 → placed (s ∷ rest) a ≡ (if a.over then rest else a ∷ rest)
placed_same s rest a e = ap (λ (c : Bool). if c then (if a.over then rest else a ∷ rest) else s ∷ placed rest a) (eq-eqb s.number.0 a.number.0 e)

placed_past : (s : SessionNow) (rest : List SessionNow) (a : SessionNow) → (s.number.0 ≡ a.number.0 → ⊥) → placed (s ∷ rest) a ≡ s ∷ placed rest a
placed_past s rest a ne = ap (λ (c : Bool). if c then (if a.over then rest else a ∷ rest) else s ∷ placed rest a) (ne_eqb s.number.0 a.number.0 ne)

-- in place of the first: the session where it goes on, and those behind it
in_rest : (over : Bool) (a z : SessionNow) (rest : List SessionNow) → Contains rest z → Contains (if over then rest else a ∷ rest) z
in_rest true a z rest h = h
in_rest false a z rest h = next_in a rest z h

from_rest : (over : Bool) (a z : SessionNow) (rest : List SessionNow) → Contains (if over then rest else a ∷ rest) z → Contains rest z ⊎ ((z ≡ a) × (over ≡ false))
from_rest true a z rest h = inl h
from_rest false a z rest h = ⊎_elim (λ (e : a ≡ z). inr (sym e, refl)) (λ (k : Contains rest z). inl k) (either_in a rest z h)

goes_first : (over : Bool) (a : SessionNow) (rest : List SessionNow) → over ≡ false → Contains (if over then rest else a ∷ rest) a
goes_first true a rest e = cc
goes_first false a rest e = first_in a rest

-- each session behind a step was there, or is the one that made it and goes on
pub placed_from : (ss : List SessionNow) (a z : SessionNow) → Contains (placed ss a) z → Contains ss z ⊎ ((z ≡ a) × (a.over ≡ false))
placed_from [] a z h = absurd (none_in z h)
placed_from (x ∷ rest) a z h = dite (ℕ_discrete x.number.0 a.number.0)
    (λ (is : x.number.0 ≡ a.number.0).
    ⊎_elim (λ (k : Contains rest z). inl (next_in x rest z k)) (λ (k : (z ≡ a) × (a.over ≡ false)). inr k)
    (from_rest a.over a z rest (subst (λ (l : List SessionNow). Contains l z) (placed_same x rest a is) h)))
    (λ ne.
    ⊎_elim (λ (e : x ≡ z). inl (subst (λ (y : SessionNow). Contains (x ∷ rest) y) e (first_in x rest)))
    (λ (k : Contains (placed rest a) z). ⊎_elim (λ (j : Contains rest z). inl (next_in x rest z j)) (λ (j : (z ≡ a) × (a.over ≡ false)). inr j) (placed_from rest a z k))
    (either_in x (placed rest a) z (subst (λ (l : List SessionNow). Contains l z) (placed_past x rest a ne) h)))

-- each session before it is still there, or is the one that made it
pub placed_on : (ss : List SessionNow) (a s z : SessionNow) → session_of ss a.number.0 ≡ Some s → Contains ss z → Contains (placed ss a) z ⊎ (z ≡ s)
placed_on [] a s z e h = absurd (none_in z h)
placed_on (x ∷ rest) a s z e h = dite (ℕ_discrete x.number.0 a.number.0)
    (λ (is : x.number.0 ≡ a.number.0).
    ⊎_elim (λ (k : x ≡ z). inr (sym k ∙ some_is x s (sym (session_here x rest a.number.0 is) ∙ e)))
    (λ (k : Contains rest z). inl (subst (λ (l : List SessionNow). Contains l z) (sym (placed_same x rest a is)) (in_rest a.over a z rest k)))
    (either_in x rest z h))
    (λ ne.
    ⊎_elim (λ (k : x ≡ z). inl (subst (λ (l : List SessionNow). Contains l z) (sym (placed_past x rest a ne)) (subst (λ (y : SessionNow). Contains (x ∷ placed rest a) y) k (first_in x (placed rest a)))))
    (λ (k : Contains rest z).
    ⊎_elim (λ (j : Contains (placed rest a) z). inl (subst (λ (l : List SessionNow). Contains l z) (sym (placed_past x rest a ne)) (next_in x (placed rest a) z j))) (λ (j : z ≡ s). inr j)
    (placed_on rest a s z (sym (session_past x rest a.number.0 ne) ∙ e) k))
    (either_in x rest z h))

-- the one that made it is there, where it goes on
pub placed_goes : (ss : List SessionNow) (a s : SessionNow) → session_of ss a.number.0 ≡ Some s → a.over ≡ false → Contains (placed ss a) a
placed_goes [] a s e go = cc
placed_goes (x ∷ rest) a s e go = dite (ℕ_discrete x.number.0 a.number.0)
    (λ (is : x.number.0 ≡ a.number.0). subst (λ (l : List SessionNow). Contains l a) (sym (placed_same x rest a is)) (goes_first a.over a rest go))
    (λ ne. subst (λ (l : List SessionNow). Contains l a) (sym (placed_past x rest a ne)) (next_in x (placed rest a) a (placed_goes rest a s (sym (session_past x rest a.number.0 ne) ∙ e) go)))
