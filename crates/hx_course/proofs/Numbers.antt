-- A worker's sessions by number, once more.
use Rattle.std.proofs.Common.{◌≡◌, ◌⊎◌, inl, inr, ⊎_elim, ℕ, ◌++◌, ◌≤◌, ◌<◌, List, [], ◌∷◌, refl, sym, ap, ◌∙◌, subst, arith, Option, Some, None}
use mathlib.Core.Logic.{dite}
use native.Mathlib.Decide.{ℕ_discrete}
use Rattle.hx_base.specs.declared.numbers.SessionNo.{SessionNo}
use Rattle.hx_connecting.specs.Sessions.{SessionNow}
use Rattle.hx_worker.proofs.ByNumber.{session_here, session_past}
use Rattle.hx_worker.specs.Workers.{session_of, NumbersRise}

pub some_is : {A : Type 0} (a b : A) → Some a ≡ Some b → a ≡ b
some_is a b e = cc

-- a session that is found has that number
pub found_number : (ss : List SessionNow) (n : ℕ) (s : SessionNow) → session_of ss n ≡ Some s → s.number.0 ≡ n
found_number [] n s e = cc
found_number (x ∷ rest) n s e = dite (ℕ_discrete x.number.0 n)
    (λ (is : x.number.0 ≡ n). ap (λ (y : SessionNow). y.number.0) (sym (some_is x s (sym (session_here x rest n is) ∙ e))) ∙ is)
    (λ ne. found_number rest n s (sym (session_past x rest n ne) ∙ e))

rise_upto : (k m : ℕ) (ss : List SessionNow) → NumbersRise k ss m → k ≤ m
rise_upto k m [] r = r
rise_upto k m (s ∷ rest) r = let low = r.0 in let high = rise_upto s.number.0 m rest r.1 in omega arith

-- and no greater one than was given
pub found_low : (k m : ℕ) (ss : List SessionNow) (n : ℕ) (s : SessionNow) → NumbersRise k ss m → session_of ss n ≡ Some s → n ≤ m
found_low k m [] n s r e = cc
found_low k m (x ∷ rest) n s r e = dite (ℕ_discrete x.number.0 n)
    (λ (is : x.number.0 ≡ n). subst (λ (j : ℕ). j ≤ m) is (rise_upto x.number.0 m rest r.1))
    (λ ne. found_low x.number.0 m rest n s r.1 (sym (session_past x rest n ne) ∙ e))

-- so a number that wasn't given isn't there
pub none_above : (k m : ℕ) (ss : List SessionNow) (n : ℕ) → NumbersRise k ss m → m < n → session_of ss n ≡ None
none_above k m ss n r above = by_session (session_of ss n) refl
  where
    by_session : (o : Option SessionNow) → session_of ss n ≡ o → o ≡ None
    by_session None e = refl
    by_session (Some s) e = let low = found_low k m ss n s r e in absurd (omega arith)

-- the session of a number
pub number_is : (n m : SessionNo) → n.0 ≡ m.0 → n ≡ m
number_is n m e = ap (λ (k : ℕ). record { 0 = k }) e

-- ---- one session more

pub session_more : (ss : List SessionNow) (s : SessionNow) (n : ℕ) (m : SessionNow) → session_of (ss ++ s ∷ []) n ≡ Some m → (session_of ss n ≡ Some m) ⊎ ((s.number.0 ≡ n) × (m ≡ s))
session_more [] s n m e = dite (ℕ_discrete s.number.0 n)
    (λ (is : s.number.0 ≡ n). inr (is, sym (some_is s m (sym (session_here s [] n is) ∙ e))))
    (λ ne. let none : session_of [] n ≡ Some m = sym (session_past s [] n ne) ∙ e in inl none)
session_more (x ∷ rest) s n m e = dite (ℕ_discrete x.number.0 n)
    (λ (is : x.number.0 ≡ n). inl (session_here x rest n is ∙ (sym (session_here x (rest ++ s ∷ []) n is) ∙ e)))
    (λ ne.
    ⊎_elim (λ (k : session_of rest n ≡ Some m). inl (session_past x rest n ne ∙ k)) (λ (k : (s.number.0 ≡ n) × (m ≡ s)). inr k)
    (session_more rest s n m (sym (session_past x (rest ++ s ∷ []) n ne) ∙ e)))

-- the new one is found by its number
pub session_new : (ss : List SessionNow) (s : SessionNow) (n : ℕ) → session_of ss n ≡ None → s.number.0 ≡ n → session_of (ss ++ s ∷ []) n ≡ Some s
session_new [] s n none is = session_here s [] n is
session_new (x ∷ rest) s n none is = dite (ℕ_discrete x.number.0 n)
    (λ (e : x.number.0 ≡ n). let no = sym (session_here x rest n e) ∙ none in cc)
    (λ ne. session_past x (rest ++ s ∷ []) n ne ∙ session_new rest s n (sym (session_past x rest n ne) ∙ none) is)

-- and each one that was there is still found
pub session_old : (ss : List SessionNow) (s : SessionNow) (n : ℕ) (m : SessionNow) → session_of ss n ≡ Some m → session_of (ss ++ s ∷ []) n ≡ Some m
session_old [] s n m e = cc
session_old (x ∷ rest) s n m e = dite (ℕ_discrete x.number.0 n)
    (λ (is : x.number.0 ≡ n). session_here x (rest ++ s ∷ []) n is ∙ (sym (session_here x rest n is) ∙ e))
    (λ ne. session_past x (rest ++ s ∷ []) n ne ∙ session_old rest s n m (sym (session_past x rest n ne) ∙ e))

-- a number that is neither there nor the new one isn't there
pub session_none : (ss : List SessionNow) (s : SessionNow) (n : ℕ) → session_of ss n ≡ None → (s.number.0 ≡ n → ⊥) → session_of (ss ++ s ∷ []) n ≡ None
session_none [] s n none ne = session_past s [] n ne
session_none (x ∷ rest) s n none ne = dite (ℕ_discrete x.number.0 n)
    (λ (e : x.number.0 ≡ n). let no = sym (session_here x rest n e) ∙ none in cc)
    (λ apart. session_past x (rest ++ s ∷ []) n apart ∙ session_none rest s n (sym (session_past x rest n apart) ∙ none) ne)
