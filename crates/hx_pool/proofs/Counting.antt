-- The count of a board and what rests there move alike, in every call.
use Rattle.std.proofs.Common.{◌≡◌, ℕ, ◌+◌, ◌*◌, ◌<◌, cond, List, [], ◌∷◌, ◌++◌, refl, sym, ap, ◌∙◌, subst, arith, Option, eq-eqb}
use Rattle.std.specs.Prelude.{count_by}
use Rattle.std.proofs.lemmas.List.Sums.{sum_by-append}
use Rattle.hx_base.specs.declared.numbers.ThreadNo.{ThreadNo}
use Rattle.hx_base.specs.declared.what.What.{What}
use Rattle.hx_pool.specs.declared.entries.Entry.{Entry}
use Rattle.hx_pool.specs.declared.entries.Entry.TheVariants.{Open, Park, Take, Free, Close, Look, Up, Down, Count, Gate, SetGate, Round}
use Rattle.hx_pool.specs.declared.entries.Note.{Note}
use Rattle.hx_pool.specs.Table.{Table, spot_no, face_of, Needs, after_entry, after, empty_table}
use Rattle.hx_pool.specs.History.{thread_of, own_of, table_from, table_after, EachStep, MeetsNeeds, IsLegal, is_park, is_up, is_down, takes_of, IsEven}
use Rattle.hx_pool.specs.SeatView.{History, AllBelow, Makes}
use Rattle.hx_pool.proofs.Histories.{table_from-append, EachStep-second, even-append}
use Rattle.hx_pool.proofs.Holding.{gained}
use Rattle.hx_pool.proofs.Purges.{takes_of-append}
use Rattle.hx_pool.proofs.Resting.{holds_one, IsCounted, resting_counts, some_in, counted_entry}

abbrev pub ups_of : List Note → ℕ
ups_of es = count_by is_up es

abbrev pub downs_of : List Note → ℕ
downs_of es = count_by is_down es

abbrev pub parks_of : List Note → ℕ
parks_of es = count_by is_park es

-- what holds of the own entries goes on from call to call
pub mine_even : (old new : History) (added : List Note) → Makes old new added → IsEven old.mine → IsEven new.mine
mine_even old new added m e = subst IsEven (sym m.mine) (even-append old.mine added e m.even)

-- the count and what rests follow the entries
pub record Moves (T S : Table) (es : List Note) : Type 0 where
  pub count : S.count + downs_of es ≡ T.count + ups_of es
  pub resting : S.resting + takes_of es ≡ T.resting + parks_of es

moves_one : (threads : ℕ) (T : Table) (w : Option What) (e : Entry) → Needs T e → IsCounted threads T → Moves T (after_entry T w e) (record { entry = e; what = w } ∷ [])
moves_one threads T w (Open t n id) need c = record { count = omega arith; resting = omega arith }
moves_one threads T w (Park t n id place uses) need c = record { count = omega arith; resting = omega arith }
moves_one threads T w (Take t n first place id uses) need c =
    let u : ℕ = spot_no place in
    let here : u < 64 * threads = c.inside u (face_of id uses) need.1 in
    let was : holds_one (T.spots u) ≡ 1 = ap holds_one need.1 in
    let some = some_in (64 * threads) T.spots u here in
    let is = c.resting_is in
    record { count = omega arith; resting = omega arith }
moves_one threads T w (Free t place) need c = record { count = omega arith; resting = omega arith }
moves_one threads T w (Close t n id) need c = record { count = omega arith; resting = omega arith }
moves_one threads T w (Look t place found) need c = record { count = omega arith; resting = omega arith }
moves_one threads T w (Up t old) need c = record { count = omega arith; resting = omega arith }
moves_one threads T w (Down t old) need c = let e = need.0 in let s = need.1 in record { count = omega arith; resting = omega arith }
moves_one threads T w (Count t k) need c = record { count = omega arith; resting = omega arith }
moves_one threads T w (Gate t draining) need c = record { count = omega arith; resting = omega arith }
moves_one threads T w (SetGate t draining) need c = record { count = omega arith; resting = omega arith }
moves_one threads T w (Round t k old) need c = record { count = omega arith; resting = omega arith }

moves_more : (T S R : Table) (x : Note) (xs : List Note) → Moves T S (x ∷ []) → Moves S R xs → Moves T R (x ∷ xs)
moves_more T S R x xs a b =
    let u : ups_of (x ∷ xs) ≡ ups_of (x ∷ []) + ups_of xs = sum_by-append (λ (y : Note). cond (is_up y) 1 0) (x ∷ []) xs in
    let d : downs_of (x ∷ xs) ≡ downs_of (x ∷ []) + downs_of xs = sum_by-append (λ (y : Note). cond (is_down y) 1 0) (x ∷ []) xs in
    let p : parks_of (x ∷ xs) ≡ parks_of (x ∷ []) + parks_of xs = sum_by-append (λ (y : Note). cond (is_park y) 1 0) (x ∷ []) xs in
    let t = takes_of-append (x ∷ []) xs in
    let e = a.count in let f = b.count in let g = a.resting in let h = b.resting in
    record { count = omega arith; resting = omega arith }

pub moves_along : (threads : ℕ) (T : Table) (xs : List Note) → AllBelow threads xs → EachStep MeetsNeeds T xs → IsCounted threads T → Moves T (table_from T xs) xs
moves_along threads T [] low l c = record { count = refl; resting = refl }
moves_along threads T (x ∷ xs) low l c = moves_more T (after T x) (table_from (after T x) xs) x xs (moves_one threads T x.what x.entry l.0 c)
    (moves_along threads (after T x) xs low.1 l.1 (counted_entry threads T x.what x.entry low.0 l.0 c))

-- where there is one thread, its own entries are all
pub all_own : (t : ThreadNo) (xs : List Note) → t.0 < 1 → AllBelow 1 xs → own_of t xs ≡ xs
all_own t [] z low = refl
all_own t (x ∷ xs) z low =
    let e : (thread_of x.entry).0 ≡ t.0 = let a = low.0 in omega arith in
    ap (λ b. cond b (x ∷ own_of t xs) (own_of t xs)) (eq-eqb (thread_of x.entry).0 t.0 e) ∙ ap (λ l. x ∷ l) (all_own t xs z low.1)

pub below-second : (k : ℕ) (xs ys : List Note) → AllBelow k (xs ++ ys) → AllBelow k ys
below-second k [] ys a = a
below-second k (x ∷ xs) ys a = below-second k xs ys a.1

-- at a board of one thread, a call with an Up for each Park leaves the count equal to what rests
pub count_alone : (old new : History) (added : List Note) → Makes old new added → old.about.threads ≡ 1
    → (table_after old.seen).count ≡ (table_after old.seen).resting → (table_after new.seen).count ≡ (table_after new.seen).resting
count_alone old new added m one was =
    let t = old.about.thread in
    let same : new.about.threads ≡ 1 = ap (λ (a : Rattle.hx_pool.specs.SeatView.About). a.threads) m.about ∙ one in
    let low : AllBelow 1 new.seen = subst (λ k. AllBelow k new.seen) same m.one.threads in
    let between = below-second 1 old.seen m.seen.0 (subst (AllBelow 1) m.seen.1 low) in
    let zero_is : t.0 < 1 = subst (λ k. t.0 < k) one m.was.inside.0 in
    let is : m.seen.0 ≡ added = sym (all_own t m.seen.0 zero_is between) ∙ gained old new added m in
    let T = table_after old.seen in
    let legal : EachStep MeetsNeeds T m.seen.0 = EachStep-second MeetsNeeds empty_table old.seen m.seen.0 (subst IsLegal m.seen.1 m.one.legal) in
    let c = resting_counts 1 old.seen (subst (λ k. AllBelow k old.seen) one m.was.threads) m.was.legal in
    let mv = moves_along 1 T m.seen.0 between legal c in
    let e : table_after new.seen ≡ table_from T m.seen.0 = ap table_after m.seen.1 ∙ table_from-append empty_table old.seen m.seen.0 in
    let ev : IsEven m.seen.0 = subst IsEven (sym is) m.even in
    let a = mv.count in let b = mv.resting in
    let done : (table_from T m.seen.0).count ≡ (table_from T m.seen.0).resting = omega arith in
    ap (λ (S : Table). S.count) e ∙ (done ∙ ap (λ (S : Table). S.resting) (sym e))
