-- A worker's sessions by number.
use Rattle.std.proofs.Common.{◌≡◌, ℕ, suc, ◌≤◌, Bool, true, false, List, [], ◌∷◌, length, refl, sym, ap, ◌∙◌, subst, arith, Option, Some, None, eq-eqb, ne_eqb}
use Rattle.std.specs.Prelude.{if◌then◌else◌, ◌==◌}
use mathlib.Core.Logic.{dite}
use native.Mathlib.Decide.{ℕ_discrete}
use Rattle.hx_connecting.specs.Sessions.{SessionNow, Holding}
use Rattle.hx_connecting.specs.Holds.{conn_at}
use Rattle.hx_worker.specs.Workers.{Each, session_of, held_of, NumbersRise}
use Rattle.hx_worker.specs.Steps.{placed}

if_true : {A : Type 0} (b : Bool) (x y : A) → b ≡ true → (if b then x else y) ≡ x
if_true b x y e = ap (λ (c : Bool). if c then x else y) e

if_false : {A : Type 0} (b : Bool) (x y : A) → b ≡ false → (if b then x else y) ≡ y
if_false b x y e = ap (λ (c : Bool). if c then x else y) e

-- the first session is found by its number
pub session_here : (s : SessionNow) (rest : List SessionNow) (n : ℕ) → s.number.0 ≡ n → session_of (s ∷ rest) n ≡ Some s
session_here s rest n e = if_true (s.number.0 == n) (Some s) (session_of rest n) (eq-eqb s.number.0 n e)

-- and another one behind it
pub session_past : (s : SessionNow) (rest : List SessionNow) (n : ℕ) → (s.number.0 ≡ n → ⊥) → session_of (s ∷ rest) n ≡ session_of rest n
session_past s rest n ne = if_false (s.number.0 == n) (Some s) (session_of rest n) (ne_eqb s.number.0 n ne)

placed_here : (s : SessionNow) (rest : List SessionNow) (a : SessionNow) → s.number.0 ≡ a.number.0 → placed (s ∷ rest) a ≡ (if a.over then rest else a ∷ rest)
placed_here s rest a e = if_true (s.number.0 == a.number.0) (if a.over then rest else a ∷ rest) (s ∷ placed rest a) (eq-eqb s.number.0 a.number.0 e)

placed_past : (s : SessionNow) (rest : List SessionNow) (a : SessionNow) → (s.number.0 ≡ a.number.0 → ⊥) → placed (s ∷ rest) a ≡ s ∷ placed rest a
placed_past s rest a ne = if_false (s.number.0 == a.number.0) (if a.over then rest else a ∷ rest) (s ∷ placed rest a) (ne_eqb s.number.0 a.number.0 ne)

-- one case for a session that is over, one for a session that goes on
by_over : (P : List SessionNow → Type 0) (rest : List SessionNow) (a : SessionNow) → (a.over ≡ true → P rest) → (a.over ≡ false → P (a ∷ rest)) → P (if a.over then rest else a ∷ rest)
by_over P rest a gone stays =
    let go : (b : Bool) → (b ≡ true → P rest) → (b ≡ false → P (a ∷ rest)) → P (if b then rest else a ∷ rest) =
    λ b. elim b as (λ b. (b ≡ true → P rest) → (b ≡ false → P (a ∷ rest)) → P (if b then rest else a ∷ rest)) [
      | true ↦ λ p q. p refl
      | false ↦ λ p q. q refl
    ] in go a.over gone stays

-- other sessions are as they were
pub placed_other : (ss : List SessionNow) (a : SessionNow) (n : ℕ) → (a.number.0 ≡ n → ⊥) → session_of (placed ss a) n ≡ session_of ss n
placed_other [] a n ne = refl
placed_other (s ∷ rest) a n ne = dite (ℕ_discrete s.number.0 a.number.0)
    (λ (e : s.number.0 ≡ a.number.0).
    let past : session_of (s ∷ rest) n ≡ session_of rest n = session_past s rest n (λ k. ne (sym e ∙ k)) in
    ap (λ l. session_of l n) (placed_here s rest a e)
    ∙ (by_over (λ l. session_of l n ≡ session_of rest n) rest a (λ y. refl) (λ no. session_past a rest n ne) ∙ sym past))
    (λ apart.
    ap (λ l. session_of l n) (placed_past s rest a apart)
    ∙ dite (ℕ_discrete s.number.0 n)
    (λ (k : s.number.0 ≡ n). session_here s (placed rest a) n k ∙ sym (session_here s rest n k))
    (λ no. session_past s (placed rest a) n no ∙ (placed_other rest a n ne ∙ sym (session_past s rest n no))))

-- no session behind has a number as low
pub none_behind : (n k m : ℕ) (ss : List SessionNow) → n ≤ k → NumbersRise k ss m → session_of ss n ≡ None
none_behind n k m [] low r = refl
none_behind n k m (s ∷ rest) low r = let up = r.0 in session_past s rest n (λ e. omega arith) ∙ none_behind n s.number.0 m rest (omega arith) r.1

-- a session that goes on
abbrev pub if_going : SessionNow → Option SessionNow
if_going a = if a.over then None else Some a

-- the session itself is as it is now, or gone
pub placed_same : (k m : ℕ) (ss : List SessionNow) (s a : SessionNow) → NumbersRise k ss m → session_of ss a.number.0 ≡ Some s → session_of (placed ss a) a.number.0 ≡ if_going a
placed_same k m [] s a r e = cc
placed_same k m (x ∷ rest) s a r e = dite (ℕ_discrete x.number.0 a.number.0)
    (λ (is : x.number.0 ≡ a.number.0).
    ap (λ l. session_of l a.number.0) (placed_here x rest a is)
    ∙ by_over (λ l. session_of l a.number.0 ≡ if_going a) rest a
    (λ y. none_behind a.number.0 x.number.0 m rest (omega arith) r.1 ∙ sym (if_true a.over None (Some a) y))
    (λ no. session_here a rest a.number.0 refl ∙ sym (if_false a.over None (Some a) no)))
    (λ apart.
    ap (λ l. session_of l a.number.0) (placed_past x rest a apart)
    ∙ (session_past x (placed rest a) a.number.0 apart
    ∙ placed_same x.number.0 m rest s a r.1 (sym (session_past x rest a.number.0 apart) ∙ e)))

-- so what it holds is its connection; one that is over has none
pub placed_held : (k m : ℕ) (ss : List SessionNow) (s a : SessionNow) (i : ℕ) → NumbersRise k ss m → session_of ss a.number.0 ≡ Some s → (a.over ≡ true → a.conn ≡ None)
    → held_of (session_of (placed ss a) a.number.0) i ≡ conn_at a.conn i
placed_held k m ss s a i r there gone =
    let go : (b : Bool) → (b ≡ true → a.conn ≡ None) → held_of (if b then None else Some a) i ≡ conn_at a.conn i =
    λ b. elim b as (λ b. (b ≡ true → a.conn ≡ None) → held_of (if b then None else Some a) i ≡ conn_at a.conn i) [
      | true ↦ λ g. sym (ap (λ (c : Option Holding). conn_at c i) (g refl))
      | false ↦ λ g. refl
    ] in ap (λ (o : Option SessionNow). held_of o i) (placed_same k m ss s a r there) ∙ go a.over gone

rise_from : (j k m : ℕ) (ss : List SessionNow) → j ≤ k → NumbersRise k ss m → NumbersRise j ss m
rise_from j k m [] low r = omega arith
rise_from j k m (s ∷ rest) low r = let up = r.0 in (omega arith, r.1)

-- the numbers of those behind the first
pub rise_rest : (k m : ℕ) (s : SessionNow) (rest : List SessionNow) → NumbersRise k (s ∷ rest) m → NumbersRise k rest m
rise_rest k m s rest r = let up = r.0 in rise_from k s.number.0 m rest (omega arith) r.1

pub placed_rise : (k m : ℕ) (ss : List SessionNow) (a : SessionNow) → NumbersRise k ss m → NumbersRise k (placed ss a) m
placed_rise k m [] a r = r
placed_rise k m (x ∷ rest) a r = let up = r.0 in dite (ℕ_discrete x.number.0 a.number.0)
    (λ (is : x.number.0 ≡ a.number.0).
    subst (λ l. NumbersRise k l m) (sym (placed_here x rest a is))
    (by_over (λ l. NumbersRise k l m) rest a
    (λ y. rise_from k x.number.0 m rest (omega arith) r.1)
    (λ no. (omega arith, subst (λ j. NumbersRise j rest m) is r.1))))
    (λ apart. subst (λ l. NumbersRise k l m) (sym (placed_past x rest a apart)) (r.0, placed_rise x.number.0 m rest a r.1))

pub placed_each : (P : SessionNow → Type 0) (ss : List SessionNow) (a : SessionNow) → (a.over ≡ false → P a) → Each P ss → Each P (placed ss a)
placed_each P [] a new e = tt
placed_each P (x ∷ rest) a new e = dite (ℕ_discrete x.number.0 a.number.0)
    (λ (is : x.number.0 ≡ a.number.0).
    subst (λ l. Each P l) (sym (placed_here x rest a is)) (by_over (λ l. Each P l) rest a (λ y. e.1) (λ no. (new no, e.1))))
    (λ apart. subst (λ l. Each P l) (sym (placed_past x rest a apart)) (e.0, placed_each P rest a new e.1))

pub placed_few : (ss : List SessionNow) (a : SessionNow) → length (placed ss a) ≤ length ss
placed_few [] a = omega arith
placed_few (x ∷ rest) a = dite (ℕ_discrete x.number.0 a.number.0)
    (λ (is : x.number.0 ≡ a.number.0).
    subst (λ l. length l ≤ suc (length rest)) (sym (placed_here x rest a is)) (by_over (λ l. length l ≤ suc (length rest)) rest a (λ y. omega arith) (λ no. omega arith)))
    (λ apart. let more = placed_few rest a in subst (λ l. length l ≤ suc (length rest)) (sym (placed_past x rest a apart)) (omega arith))

-- a session that is found meets what each one does, and has that number
pub each_found : (P : SessionNow → Type 0) (ss : List SessionNow) (n : ℕ) (s : SessionNow) → session_of ss n ≡ Some s → Each P ss → (s.number.0 ≡ n) × P s
each_found P [] n s e a = cc
each_found P (x ∷ rest) n s e a = dite (ℕ_discrete x.number.0 n)
    (λ (is : x.number.0 ≡ n). let same : x ≡ s = option_inj x s (sym (session_here x rest n is) ∙ e) in (subst (λ (y : SessionNow). y.number.0 ≡ n) same is, subst P same a.0))
    (λ no. each_found P rest n s (sym (session_past x rest n no) ∙ e) a.1)
  where
    option_inj : (x y : SessionNow) → Some x ≡ Some y → x ≡ y
    option_inj x y e = cc
