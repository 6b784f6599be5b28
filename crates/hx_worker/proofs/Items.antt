-- A worker's sessions under their numbers.
use Rattle.std.proofs.Common.{◌≡◌, ℕ, ◌<◌, ◌≤◌, Bool, true, false, List, [], ◌∷◌, ◌++◌, refl, sym, ap, ◌∙◌, subst, arith, Option, Some, None, eq-eqb, ne_eqb, lt-ltb}
use Rattle.std.specs.Prelude.{if◌then◌else◌, ◌==◌, nat_lt, option_map}
use mathlib.Core.Logic.{dite}
use native.Mathlib.Decide.{ℕ_discrete}
use Rattle.hx_base.specs.declared.numbers.SessionNo.{SessionNo}
use Rattle.hx_connecting.specs.Sessions.{SessionNow}
use Rattle.hx_numbered.specs.Numbers.{AreAbove, AreBelow, value_of, with_value, removed, number_above}
use Rattle.hx_worker.specs.Workers.{NumbersRise, session_of}
use Rattle.hx_worker.specs.Admitting.{next_above}
use Rattle.hx_worker.specs.Steps.{placed}
use Rattle.hx_worker.specs.Stops.{TakesLeast}
use Rattle.hx_worker.specs.Listed.{sessions_of, AreUnderTheirs}

abbrev pub numbered : ℕ → SessionNo
numbered k = record { 0 = k }

pub number_is : (a b : SessionNo) → a.0 ≡ b.0 → a ≡ b
number_is a b e = ap numbered e

-- what is found under a number is the session of that number
pub value_is : (items : List (ℕ × SessionNow)) (n : ℕ) → AreUnderTheirs items → value_of items n ≡ session_of (sessions_of items) n
value_is [] n u = refl
value_is (x ∷ items) n u =
    ap (λ (o : Option SessionNow). if x.0 == n then Some x.1 else o) (value_is items n u.1)
    ∙ sym (ap (λ k. if k == n then Some x.1 else session_of (sessions_of items) n) u.0)

with_here : (x : ℕ × SessionNow) (items : List (ℕ × SessionNow)) (n : ℕ) (v : SessionNow) → x.0 ≡ n → with_value (x ∷ items) n v ≡ (n, v) ∷ items
with_here x items n v e = ap (λ (b : Bool). if b then (n, v) ∷ items else x ∷ with_value items n v) (eq-eqb x.0 n e)

with_past : (x : ℕ × SessionNow) (items : List (ℕ × SessionNow)) (n : ℕ) (v : SessionNow) → (x.0 ≡ n → ⊥) → with_value (x ∷ items) n v ≡ x ∷ with_value items n v
with_past x items n v ne = ap (λ (b : Bool). if b then (n, v) ∷ items else x ∷ with_value items n v) (ne_eqb x.0 n ne)

removed_here : (x : ℕ × SessionNow) (items : List (ℕ × SessionNow)) (n : ℕ) → x.0 ≡ n → removed (x ∷ items) n ≡ items
removed_here x items n e = ap (λ (b : Bool). if b then items else x ∷ removed items n) (eq-eqb x.0 n e)

removed_past : (x : ℕ × SessionNow) (items : List (ℕ × SessionNow)) (n : ℕ) → (x.0 ≡ n → ⊥) → removed (x ∷ items) n ≡ x ∷ removed items n
removed_past x items n ne = ap (λ (b : Bool). if b then items else x ∷ removed items n) (ne_eqb x.0 n ne)

-- each is under its number still
pub with_under : (items : List (ℕ × SessionNow)) (n : ℕ) (v : SessionNow) → v.number.0 ≡ n → AreUnderTheirs items → AreUnderTheirs (with_value items n v)
with_under [] n v is u = tt
with_under (x ∷ items) n v is u = dite (ℕ_discrete x.0 n)
    (λ (e : x.0 ≡ n). subst AreUnderTheirs (sym (with_here x items n v e)) (is, u.1))
    (λ ne. subst AreUnderTheirs (sym (with_past x items n v ne)) (u.0, with_under items n v is u.1))

pub removed_under : (items : List (ℕ × SessionNow)) (n : ℕ) → AreUnderTheirs items → AreUnderTheirs (removed items n)
removed_under [] n u = tt
removed_under (x ∷ items) n u = dite (ℕ_discrete x.0 n)
    (λ (e : x.0 ≡ n). subst AreUnderTheirs (sym (removed_here x items n e)) u.1)
    (λ ne. subst AreUnderTheirs (sym (removed_past x items n ne)) (u.0, removed_under items n u.1))

placed_one : (s : SessionNow) (rest : List SessionNow) (a : SessionNow) (b : Bool) → a.over ≡ b → s.number.0 ≡ a.number.0 → placed (s ∷ rest) a ≡ (if b then rest else a ∷ rest)
placed_one s rest a b over e =
    ap (λ (c : Bool). if c then (if a.over then rest else a ∷ rest) else s ∷ placed rest a) (eq-eqb s.number.0 a.number.0 e)
    ∙ ap (λ (c : Bool). if c then rest else a ∷ rest) over

placed_more : (s : SessionNow) (rest : List SessionNow) (a : SessionNow) → (s.number.0 ≡ a.number.0 → ⊥) → placed (s ∷ rest) a ≡ s ∷ placed rest a
placed_more s rest a ne = ap (λ (c : Bool). if c then (if a.over then rest else a ∷ rest) else s ∷ placed rest a) (ne_eqb s.number.0 a.number.0 ne)

-- a session that goes on is written in its place
pub with_placed : (items : List (ℕ × SessionNow)) (n : ℕ) (v : SessionNow) → v.number.0 ≡ n → v.over ≡ false → AreUnderTheirs items → sessions_of (with_value items n v) ≡ placed (sessions_of items) v
with_placed [] n v is going u = refl
with_placed (x ∷ items) n v is going u = dite (ℕ_discrete x.0 n)
    (λ (e : x.0 ≡ n).
    ap sessions_of (with_here x items n v e)
    ∙ sym (placed_one x.1 (sessions_of items) v false going (u.0 ∙ (e ∙ sym is))))
    (λ ne.
    ap sessions_of (with_past x items n v ne)
    ∙ (ap (λ (l : List SessionNow). x.1 ∷ l) (with_placed items n v is going u.1)
    ∙ sym (placed_more x.1 (sessions_of items) v (λ k. ne (sym u.0 ∙ (k ∙ is))))))

-- and one that is over is written and taken out
pub removed_placed : (items : List (ℕ × SessionNow)) (n : ℕ) (v : SessionNow) → v.number.0 ≡ n → v.over ≡ true → AreUnderTheirs items → sessions_of (removed (with_value items n v) n) ≡ placed (sessions_of items) v
removed_placed [] n v is over u = refl
removed_placed (x ∷ items) n v is over u = dite (ℕ_discrete x.0 n)
    (λ (e : x.0 ≡ n).
    ap (λ (l : List (ℕ × SessionNow)). sessions_of (removed l n)) (with_here x items n v e)
    ∙ (ap sessions_of (removed_here (n, v) items n refl)
    ∙ sym (placed_one x.1 (sessions_of items) v true over (u.0 ∙ (e ∙ sym is)))))
    (λ ne.
    ap (λ (l : List (ℕ × SessionNow)). sessions_of (removed l n)) (with_past x items n v ne)
    ∙ (ap sessions_of (removed_past x (with_value items n v) n ne)
    ∙ (ap (λ (l : List SessionNow). x.1 ∷ l) (removed_placed items n v is over u.1)
    ∙ sym (placed_more x.1 (sessions_of items) v (λ k. ne (sym u.0 ∙ (k ∙ is)))))))

-- what was written is found
pub with_found : (items : List (ℕ × SessionNow)) (n : ℕ) (v w : SessionNow) → value_of items n ≡ Some v → value_of (with_value items n w) n ≡ Some w
with_found [] n v w e = cc
with_found (x ∷ items) n v w e = dite (ℕ_discrete x.0 n)
    (λ (is : x.0 ≡ n).
    ap (λ (l : List (ℕ × SessionNow)). value_of l n) (with_here x items n w is)
    ∙ ap (λ (b : Bool). if b then Some w else value_of items n) (eq-eqb n n refl))
    (λ ne.
    ap (λ (l : List (ℕ × SessionNow)). value_of l n) (with_past x items n w ne)
    ∙ (ap (λ (b : Bool). if b then Some x.1 else value_of (with_value items n w) n) (ne_eqb x.0 n ne)
    ∙ with_found items n v w (sym (ap (λ (b : Bool). if b then Some x.1 else value_of items n) (ne_eqb x.0 n ne)) ∙ e)))

-- a session more, the last one
pub more_under : (items : List (ℕ × SessionNow)) (n : ℕ) (v : SessionNow) → v.number.0 ≡ n → AreUnderTheirs items → AreUnderTheirs (items ++ (n, v) ∷ [])
more_under [] n v is u = (is, tt)
more_under (x ∷ items) n v is u = (u.0, more_under items n v is u.1)

pub more_sessions : (items : List (ℕ × SessionNow)) (n : ℕ) (v : SessionNow) → sessions_of (items ++ (n, v) ∷ []) ≡ sessions_of items ++ v ∷ []
more_sessions [] n v = refl
more_sessions (x ∷ items) n v = ap (λ (l : List SessionNow). x.1 ∷ l) (more_sessions items n v)

rise_least : (k m : ℕ) (ss : List SessionNow) → NumbersRise k ss m → k ≤ m
rise_least k m [] r = r
rise_least k m (s ∷ rest) r = let up = r.0 in let more = rise_least s.number.0 m rest r.1 in omega arith

-- each number is below one that is above the last
pub below_next : (k m n : ℕ) (items : List (ℕ × SessionNow)) → m < n → NumbersRise k (sessions_of items) m → AreUnderTheirs items → AreBelow items n
below_next k m n [] less r u = tt
below_next k m n (x ∷ items) less r u =
    let most = rise_least x.1.number.0 m (sessions_of items) r.1 in let is = u.0 in
    (omega arith, below_next x.1.number.0 m n items less r.1 u.1)

-- and above those before it
pub above_all : (j k m : ℕ) (items : List (ℕ × SessionNow)) → j ≤ k → NumbersRise k (sessions_of items) m → AreUnderTheirs items → AreAbove j items
above_all j k m [] low r u = tt
above_all j k m (x ∷ items) low r u =
    let up = r.0 in let is = u.0 in
    (omega arith, above_all j x.1.number.0 m items (omega arith) r.1 u.1)

-- the least number above n
pub above_is : (items : List (ℕ × SessionNow)) (n : ℕ) → AreUnderTheirs items → next_above (sessions_of items) n ≡ option_map numbered (number_above items n)
above_is [] n u = refl
above_is (x ∷ items) n u =
    let same : x.1.number ≡ numbered x.0 = number_is x.1.number (numbered x.0) u.0 in
    ap (λ (k : SessionNo). if nat_lt n k.0 then Some k else next_above (sessions_of items) n) same
    ∙ (ap (λ (o : Option SessionNo). if nat_lt n x.0 then Some (numbered x.0) else o) (above_is items n u.1)
    ∙ by_test (nat_lt n x.0) x.0 (number_above items n))
  where
    by_test : (b : Bool) (k : ℕ) (o : Option ℕ) → (if b then Some (numbered k) else option_map numbered o) ≡ option_map numbered (if b then Some k else o)
    by_test true k o = refl
    by_test false k o = refl

-- the least of all is the first
first_above : {A : Type 0} (x : ℕ × A) (items : List (ℕ × A)) → 0 < x.0 → number_above (x ∷ items) 0 ≡ Some x.0
first_above x items up = ap (λ (b : Bool). if b then Some x.0 else number_above items 0) (lt-ltb 0 x.0 up)

some_is : (a b : ℕ) → Some a ≡ Some b → a ≡ b
some_is a b e = cc

pub takes_first : {A : Type 0} (items items' : List (ℕ × A)) (n : ℕ) (taken : Option A) → AreAbove 0 items → Some n ≡ number_above items 0 → taken ≡ value_of items n → items' ≡ removed items n → TakesLeast items items' taken
takes_first [] items' n taken a e v r = cc
takes_first {A} (x ∷ items) items' n taken a e v r =
    let is : x.0 ≡ n = sym (some_is n x.0 (e ∙ first_above x items a.0)) in (
      r ∙ ap (λ (b : Bool). if b then items else x ∷ removed items n) (eq-eqb x.0 n is),
      v ∙ ap (λ (b : Bool). if b then Some x.1 else value_of items n) (eq-eqb x.0 n is),
    )

pub takes_none : {A : Type 0} (items : List (ℕ × A)) → AreAbove 0 items → None ≡ number_above items 0 → TakesLeast items items None
takes_none [] a e = (refl, refl)
takes_none (x ∷ items) a e = let f = first_above x items a.0 in cc
