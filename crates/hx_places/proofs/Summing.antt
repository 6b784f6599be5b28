-- The count is what rests and what threads have still to count, and no more rest than may.
use Rattle.std.proofs.Common.{◌≡◌, ◌≢◌, ℕ, zero, suc, ◌+◌, ◌-◌, ◌*◌, ◌<◌, ◌≤◌, ◌⊎◌, ⊎_elim, inl, inr, sym, refl, ap}
use Rattle.std.proofs.Common.{◌∙◌, arith, Option, Some, None, lt-ltb, le-ltb}
use native.Mathlib.Decide.{ℕ_discrete, dec_lt}
use mathlib.Core.Logic.{dite}
use Rattle.hx_base.specs.declared.what.What.{What}
use Rattle.hx_pool.specs.declared.entries.Entry.{Entry}
use Rattle.hx_pool.specs.declared.entries.Entry.TheVariants.{Open, Park, Take, Free, Close, Look, Up, Down, Count}
use Rattle.hx_pool.specs.declared.entries.Entry.TheVariants.{Gate, SetGate, Round}
use Rattle.hx_pool.specs.Table.{Table, Needs, after_entry, spot_no, face_of}
use Rattle.hx_pool.specs.History.{thread_of}
use Rattle.hx_pool.proofs.Resting.{IsCounted, holds_one, resting_in, some_in}
use Rattle.hx_places.specs.Turns.{Due, Settled, WentUp, HasTaken, due_after, IsBelow, CountsInTurn}
use Rattle.hx_places.specs.Sums.{sum_below, owed, still_parks, Sums}

under_same : (k : ℕ) (f g : ℕ → ℕ) → ((t : ℕ) → t < k → f t ≡ g t) → sum_below k f ≡ sum_below k g
under_same zero f g e = refl
under_same (suc k) f g e = let more = under_same k f g (λ t l. e t (omega arith)) in let here = e k (omega arith) in
    omega arith

pub under_le : (k : ℕ) (f g : ℕ → ℕ) → ((t : ℕ) → f t ≤ g t) → sum_below k f ≤ sum_below k g
under_le zero f g e = omega arith
under_le (suc k) f g e = let more = under_le k f g e in let here = e k in omega arith

pub under_zero : (k : ℕ) (f : ℕ → ℕ) → ((t : ℕ) → f t ≡ 0) → sum_below k f ≡ 0
under_zero zero f z = refl
under_zero (suc k) f z = let more = under_zero k f z in let here = z k in omega arith

pub under_ones : (k : ℕ) (f : ℕ → ℕ) → ((t : ℕ) → f t ≤ 1) → sum_below k f ≤ k
under_ones zero f one = omega arith
under_ones (suc k) f one = let more = under_ones k f one in let here = one k in omega arith

pub under_some : (k u : ℕ) (f : ℕ → ℕ) → u < k → f u ≤ sum_below k f
under_some zero u f l = absurd (omega arith)
under_some (suc k) u f l =
    dite (ℕ_discrete u k) (λ e. let is : f u ≡ f k = ap f e in omega arith)
    (λ n. let more = under_some k u f (omega arith) in omega arith)

-- one summand changes
pub under_change : (k : ℕ) (f g : ℕ → ℕ) (u : ℕ) → u < k → ((t : ℕ) → t ≢ u → g t ≡ f t)
    → sum_below k g + f u ≡ sum_below k f + g u
under_change zero f g u l e = absurd (omega arith)
under_change (suc k) f g u l e = dite (ℕ_discrete u k)
    (λ is. let same = under_same k g f (λ t low. e t (λ z. omega arith)) in let a : f u ≡ f k = ap f is in
    let b : g u ≡ g k = ap g is in omega arith)
    (λ n. let more = under_change k f g u (omega arith) e in let here = e k (λ z. n (sym z)) in omega arith)

may_le_due : (m : ℕ) (d : Due) → still_parks m d ≤ owed d
may_le_due m Settled = omega arith
may_le_due m (WentUp old) =
    dite (dec_lt old m) (λ l. rw (lt-ltb old m l) (omega arith)) (λ n. rw (le-ltb old m (omega arith)) (omega arith))
may_le_due m HasTaken = omega arith

some_due : (d : Due) → d ≢ Settled → owed d ≡ 1
some_due Settled n = absurd (n refl)
some_due (WentUp old) n = refl
some_due HasTaken n = refl

due_most : (d : Due) → owed d ≤ 1
due_most Settled = omega arith
due_most (WentUp old) = omega arith
due_most HasTaken = omega arith

below_is : (max : Option ℕ) (m old : ℕ) → max ≡ Some m → IsBelow max old → old < m
below_is None m old is b = absurd (cc)
below_is (Some k) m old is b = let same : k ≡ m = (cc) in omega arith

-- no count and no due changes
same_sums : (max : Option ℕ) (g c r : ℕ) (due due' : ℕ → Due) → ((u : ℕ) → due' u ≡ due u) → Sums max g c r due
    → Sums max g c r due'
same_sums max g c r due due' same s =
    let a = under_same g (λ t. owed (due' t)) (λ t. owed (due t)) (λ t _. ap owed (same t)) in record {
      count_is = let is = s.count_is in omega arith;
      within = λ m is. let b =
          under_same g (λ t. still_parks m (due' t)) (λ t. still_parks m (due t))
          (λ t _. ap (still_parks m) (same t)) in let most = s.within m is in omega arith;
    }

-- one thread's due changes, with the count and what rests
one_due : (max : Option ℕ) (g c r c' r' u : ℕ) (due due' : ℕ → Due) → u < g → ((t : ℕ) → t ≢ u → due' t ≡ due t)
    → c' + owed (due u) + r ≡ c + owed (due' u) + r'
    → ((m : ℕ) → max ≡ Some m → r + sum_below g (λ t. still_parks m (due t)) ≤ m
    → c ≡ r + sum_below g (λ t. owed (due t))
    → r' + still_parks m (due' u) ≤ r + still_parks m (due u) ⊎ r' + sum_below g (λ t. still_parks m (due' t)) ≤ m)
    → Sums max g c r due → Sums max g c' r' due'
one_due max g c r c' r' u due due' low same counts may s =
    let a = under_change g (λ t. owed (due t)) (λ t. owed (due' t)) u low (λ t n. ap owed (same t n)) in record {
      count_is = let is = s.count_is in omega arith;
      within = λ m is. let most = s.within m is in
          let b = under_change g (λ t. still_parks m (due t)) (λ t. still_parks m (due' t)) u low
          (λ t n. ap (still_parks m) (same t n)) in
          ⊎_elim (λ (l : r' + still_parks m (due' u) ≤ r + still_parks m (due u)). omega arith) (λ l. l)
          (may m is most s.count_is);
    }

all_same : (due due' : ℕ → Due) (u : ℕ) → due' u ≡ due u → ((t : ℕ) → t ≢ u → due' t ≡ due t) → (t : ℕ) → due' t ≡ due t
all_same due due' u here other t = dite (ℕ_discrete t u) (λ e. ap due' e ∙ (here ∙ ap due (sym e))) (λ n. other t n)

pub sums_entry : (max : Option ℕ) (g : ℕ) (T : Table) (w : Option What) (e : Entry) (due due' : ℕ → Due)
    → (thread_of e).0 < g → Needs T e → CountsInTurn max (due (thread_of e).0) e
    → due' (thread_of e).0 ≡ due_after (due (thread_of e).0) e
    → ((t : ℕ) → t ≢ (thread_of e).0 → due' t ≡ due t) → IsCounted g T → Sums max g T.count T.resting due
    → Sums max g (after_entry T w e).count (after_entry T w e).resting due'
sums_entry max g T w (Open t n id) due due' low need turn here other c s =
    same_sums max g T.count T.resting due due' (all_same due due' t.0 here other) s
sums_entry max g T w (Park t n id place uses) due due' low need turn here other c s =
    let was : owed (due t.0) ≡ 1 = ap owed turn.1 in
    let is : owed (due' t.0) ≡ 0 = ap owed here in
    one_due max g T.count T.resting T.count (T.resting + 1) t.0 due due' low other (omega arith)
    (λ m max_is most count. inl
    (let may : still_parks m (due t.0) ≡ 1 = ap (still_parks m) turn.1
    ∙ rw (lt-ltb turn.0 m (below_is max m turn.0 max_is turn.2)) refl in
    let may' : still_parks m (due' t.0) ≡ 0 = ap (still_parks m) here in omega arith)) s
sums_entry max g T w (Take t n first place id uses) due due' low need turn here other c s =
    let was : owed (due t.0) ≡ 0 = ap owed turn in
    let is : owed (due' t.0) ≡ 1 = ap owed here in
    let one : holds_one (T.spots (spot_no place)) ≡ 1 = ap holds_one need.1 in
    let some = some_in (64 * g) T.spots (spot_no place) (c.inside (spot_no place) (face_of id uses) need.1) in
    let rest = c.resting_is in
    one_due max g T.count T.resting T.count (T.resting - 1) t.0 due due' low other (omega arith)
    (λ m max_is most count. inl (let may : still_parks m (due' t.0) ≡ 0 = ap (still_parks m) here in omega arith)) s
sums_entry max g T w (Free t place) due due' low need turn here other c s =
    same_sums max g T.count T.resting due due' (all_same due due' t.0 here other) s
sums_entry max g T w (Close t n id) due due' low need turn here other c s =
    same_sums max g T.count T.resting due due' (all_same due due' t.0 here other) s
sums_entry max g T w (Look t place found) due due' low need turn here other c s =
    same_sums max g T.count T.resting due due' (all_same due due' t.0 here other) s
sums_entry max g T w (Up t old) due due' low need turn here other c s =
    let was : owed (due t.0) ≡ 0 = ap owed turn in
    let is : owed (due' t.0) ≡ 1 = ap owed here in
    one_due max g T.count T.resting (T.count + 1) T.resting t.0 due due' low other (omega arith)
    (λ m max_is most count.
    let may : still_parks m (due t.0) ≡ 0 = ap (still_parks m) turn in
    let may' : still_parks m (due' t.0) ≡ still_parks m (WentUp old) = ap (still_parks m) here in
    dite (dec_lt old m)
    (λ l. let one : still_parks m (WentUp old) ≡ 1 = rw (lt-ltb old m l) refl in
    let less = under_le g (λ z. still_parks m (due z)) (λ z. owed (due z)) (λ z. may_le_due m (due z)) in
    let b = under_change g (λ z. still_parks m (due z)) (λ z. still_parks m (due' z)) t.0 low
    (λ z n. ap (still_parks m) (other z n)) in inr (omega arith))
    (λ n. let none : still_parks m (WentUp old) ≡ 0 = rw (le-ltb old m (omega arith)) refl in inl (omega arith))) s
sums_entry max g T w (Down t old) due due' low need turn here other c s =
    let was = some_due (due t.0) turn in
    let is : owed (due' t.0) ≡ 0 = ap owed here in
    one_due max g T.count T.resting (T.count - 1) T.resting t.0 due due' low other (omega arith)
    (λ m max_is most count. inl (let may : still_parks m (due' t.0) ≡ 0 = ap (still_parks m) here in omega arith)) s
sums_entry max g T w (Count t k) due due' low need turn here other c s =
    same_sums max g T.count T.resting due due' (all_same due due' t.0 here other) s
sums_entry max g T w (Gate t draining) due due' low need turn here other c s =
    same_sums max g T.count T.resting due due' (all_same due due' t.0 here other) s
sums_entry max g T w (SetGate t draining) due due' low need turn here other c s =
    same_sums max g T.count T.resting due due' (all_same due due' t.0 here other) s
sums_entry max g T w (Round t k old) due due' low need turn here other c s =
    same_sums max g T.count T.resting due due' (all_same due due' t.0 here other) s

resting_most : (k : ℕ) (S : ℕ → Rattle.hx_pool.specs.Table.Spot) → resting_in S k ≤ k
resting_most zero S = omega arith
resting_most (suc k) S = let more = resting_most k S in let here = one_most (S k) in omega arith
  where
    one_most : (s : Rattle.hx_pool.specs.Table.Spot) → holds_one s ≤ 1
    one_most Rattle.hx_pool.specs.Table.Vacant = omega arith
    one_most (Rattle.hx_pool.specs.Table.Holds f) = omega arith
    one_most (Rattle.hx_pool.specs.Table.Leaves t) = omega arith

-- the count is small
pub count_low : (max : Option ℕ) (g : ℕ) (T : Table) (due : ℕ → Due) → g ≤ 16 → IsCounted g T
    → Sums max g T.count T.resting due → T.count ≤ 1040
count_low max g T due few c s =
    let a = resting_most (64 * g) T.spots in
    let b = under_ones g (λ t. owed (due t)) (λ t. due_most (due t)) in
    let r = c.resting_is in
    let is = s.count_is in omega arith

-- a thread that has still to count down is counted
pub due_counts : (max : Option ℕ) (g : ℕ) (T : Table) (due : ℕ → Due) (t : ℕ) → t < g → due t ≢ Settled
    → Sums max g T.count T.resting due → 0 < T.count
due_counts max g T due t l n s = let one = some_due (due t) n in let part = under_some g t (λ z. owed (due z)) l in
    let is = s.count_is in omega arith
