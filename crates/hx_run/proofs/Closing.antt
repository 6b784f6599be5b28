-- Where no session has a connection and a drain covered each place, each connection that was opened is closed.
use Rattle.std.proofs.Common.{◌≡◌, ◌≢◌, ℕ, ◌*◌, ◌<◌, ◌≤◌, Bool, true, false, cond, List, [], ◌∷◌, ◌++◌, refl, sym, ap, ◌∙◌, subst, arith, inl, inr, ◌⊎◌, ⊎_elim, eq-eqb, ne_eqb, Option, Some, None}
use Rattle.std.specs.Prelude.{◌==◌, nat_lt}
use mathlib.Core.Logic.{dite}
use native.Mathlib.Decide.{ℕ_discrete}
use Rattle.std.proofs.lemmas.Bool.{eqb-true}
use Rattle.hx_base.specs.declared.numbers.ConnId.{ConnId}
use Rattle.hx_base.specs.declared.numbers.Face.{Face}
use Rattle.hx_base.specs.declared.numbers.PlaceNo.{PlaceNo}
use Rattle.hx_base.specs.declared.numbers.SessionNo.{SessionNo}
use Rattle.hx_base.specs.declared.numbers.ThreadNo.{ThreadNo}
use Rattle.hx_base.specs.declared.what.What.{What}
use Rattle.hx_pool.specs.declared.entries.Entry.{Entry}
use Rattle.hx_pool.specs.declared.entries.Entry.TheVariants.{Open, Park, Take, Free, Close, Look, Up, Down, Count, Gate, SetGate, Round}
use Rattle.hx_pool.specs.declared.entries.Note.{Note}
use Rattle.hx_pool.specs.Causes.{IsCovered}
use Rattle.hx_pool.specs.Held.{Hold, hold, hold_after, hold_from, Has, without, held_after, held_from, held_by}
use Rattle.hx_pool.specs.History.{plain, is_by, is_mark, thread_of, own_of, marks_of, table_from, table_after, EachStep, MeetsNeeds}
use Rattle.hx_pool.specs.SeatView.{About, History, AllBelow, Makes}
use Rattle.hx_pool.specs.Table.{Table, Conn, Unopened, HeldBy, IdleAt, Closed, Spot, Vacant, Holds, Leaves, spot_no, spot_at, with_spot, IsInRow, face_of, Needs, after_entry, after, empty_table}
use Rattle.hx_pool.proofs.Emptied.{covered_empty}
use Rattle.hx_pool.proofs.Histories.{table_from-append, EachStep-second}
use Rattle.hx_pool.proofs.Holding.{gained, same_thread}
use Rattle.hx_pool.proofs.Owning.{with_has}
use Rattle.hx_pool.proofs.Resting.{resting_counts}
use Rattle.hx_pool.proofs.Rows.{ParksElsewhere, AllElsewhere}
use Rattle.hx_pool.proofs.Tables.{put_same, put_other, spot_cases}
use Rattle.hx_caretaker.specs.Orders.{Drains}
use Rattle.hx_caretaker.specs.Sweeps.{Swept, sweep_marks}
use Rattle.hx_run.specs.Overs.{AllClosed}

-- ---- what a table tells of each connection

-- a connection that rests at a place stands there
abbrev RestsThere : Table → ℕ → PlaceNo → Type 0
RestsThere T i q = IsInRow q × (f : Face) × (f.id.0 ≡ i) × (spot_at T q ≡ Holds f)

-- an opened connection isn't unopened, one that rests stands at its place, and one that is held is held by a thread that is there
record IsTold (threads : ℕ) (T : Table) : Type 0 where
  pub opened : (i : ℕ) → 1 ≤ i → i < T.next → T.conns i ≢ Unopened
  pub idle : (i : ℕ) (q : PlaceNo) → T.conns i ≡ IdleAt q → RestsThere T i q
  pub by : (i : ℕ) (t : ThreadNo) (n : SessionNo) → T.conns i ≡ HeldBy t n → t.0 < threads

thread_in : ThreadNo → Conn → ThreadNo
thread_in d (HeldBy t n) = t
thread_in d _ = d

thread_is : (t u : ThreadNo) (n m : SessionNo) → HeldBy t n ≡ HeldBy u m → t ≡ u
unfolding thread_in
thread_is t u n m e = ap (thread_in t) e

place_in : PlaceNo → Conn → PlaceNo
place_in d (IdleAt q) = q
place_in d _ = d

place_is : (p q : PlaceNo) → IdleAt p ≡ IdleAt q → p ≡ q
unfolding place_in
place_is p q e = ap (place_in p) e

face_in : Face → Spot → Face
face_in d (Holds f) = f
face_in d _ = d

face_is : (f g : Face) → Holds f ≡ Holds g → f ≡ g
unfolding face_in
face_is f g e = ap (face_in f) e

told_entry : (threads : ℕ) (T : Table) (w : Option What) (e : Entry) → (thread_of e).0 < threads → Needs T e → IsTold threads T → IsTold threads (after_entry T w e)
told_entry threads T w (Open u m id) low need s = record {
  opened = λ i a b. dite (ℕ_discrete i id.0)
      (λ (e : i ≡ id.0). λ is. let c : HeldBy u m ≡ Unopened = sym (put_same T.conns id.0 (HeldBy u m) i e) ∙ is in cc)
      (λ ne. λ is. let at = need.1 in s.opened i a (omega arith) (sym (put_other T.conns id.0 (HeldBy u m) i ne) ∙ is));
  idle = λ i q is. dite (ℕ_discrete i id.0)
      (λ (e : i ≡ id.0). let c : HeldBy u m ≡ IdleAt q = sym (put_same T.conns id.0 (HeldBy u m) i e) ∙ is in cc)
      (λ ne. s.idle i q (sym (put_other T.conns id.0 (HeldBy u m) i ne) ∙ is));
  by = λ i t n is. dite (ℕ_discrete i id.0)
      (λ (e : i ≡ id.0). subst (λ (x : ThreadNo). x.0 < threads) (thread_is u t m n (sym (put_same T.conns id.0 (HeldBy u m) i e) ∙ is)) low)
      (λ ne. s.by i t n (sym (put_other T.conns id.0 (HeldBy u m) i ne) ∙ is));
}
told_entry threads T w (Park u m id place uses) low need s = record {
  opened = λ i a b. dite (ℕ_discrete i id.0)
      (λ (e : i ≡ id.0). λ is. let c : IdleAt place ≡ Unopened = sym (put_same T.conns id.0 (IdleAt place) i e) ∙ is in cc)
      (λ ne. λ is. s.opened i a b (sym (put_other T.conns id.0 (IdleAt place) i ne) ∙ is));
  idle = λ i q is. dite (ℕ_discrete i id.0)
      (λ (e : i ≡ id.0).
      let same : q ≡ place = sym (place_is place q (sym (put_same T.conns id.0 (IdleAt place) i e) ∙ is)) in
      (subst IsInRow (sym same) need.inside, face_of id uses, sym e, put_same T.spots (spot_no place) (Holds (face_of id uses)) (spot_no q) (ap spot_no same)))
      (λ ne.
      let old = s.idle i q (sym (put_other T.conns id.0 (IdleAt place) i ne) ∙ is) in
      ⊎_elim
      (λ (c : (q ≡ place) × (with_spot T place (Holds (face_of id uses)) (spot_no q) ≡ Holds (face_of id uses))).
      let v : Holds old.1 ≡ Vacant = sym old.3 ∙ (ap (λ (p : PlaceNo). spot_at T p) c.0 ∙ need.vacant) in cc)
      (λ (c : (q ≢ place) × (with_spot T place (Holds (face_of id uses)) (spot_no q) ≡ spot_at T q)). (old.0, old.1, old.2, c.1 ∙ old.3))
      (spot_cases T place (Holds (face_of id uses)) q need.inside old.0));
  by = λ i t n is. dite (ℕ_discrete i id.0)
      (λ (e : i ≡ id.0). let c : IdleAt place ≡ HeldBy t n = sym (put_same T.conns id.0 (IdleAt place) i e) ∙ is in cc)
      (λ ne. s.by i t n (sym (put_other T.conns id.0 (IdleAt place) i ne) ∙ is));
}
told_entry threads T w (Take u m first place id uses) low need s = record {
  opened = λ i a b. dite (ℕ_discrete i id.0)
      (λ (e : i ≡ id.0). λ is. let c : HeldBy u m ≡ Unopened = sym (put_same T.conns id.0 (HeldBy u m) i e) ∙ is in cc)
      (λ ne. λ is. s.opened i a b (sym (put_other T.conns id.0 (HeldBy u m) i ne) ∙ is));
  idle = λ i q is. dite (ℕ_discrete i id.0)
      (λ (e : i ≡ id.0). let c : HeldBy u m ≡ IdleAt q = sym (put_same T.conns id.0 (HeldBy u m) i e) ∙ is in cc)
      (λ ne.
      let old = s.idle i q (sym (put_other T.conns id.0 (HeldBy u m) i ne) ∙ is) in
      ⊎_elim
      (λ (c : (q ≡ place) × (with_spot T place (Leaves u) (spot_no q) ≡ Leaves u)).
      let f = face_is old.1 (face_of id uses) (sym old.3 ∙ (ap (λ (p : PlaceNo). spot_at T p) c.0 ∙ need.1)) in
      absurd (ne (sym old.2 ∙ ap (λ (g : Face). g.id.0) f)))
      (λ (c : (q ≢ place) × (with_spot T place (Leaves u) (spot_no q) ≡ spot_at T q)). (old.0, old.1, old.2, c.1 ∙ old.3))
      (spot_cases T place (Leaves u) q need.0 old.0));
  by = λ i t n is. dite (ℕ_discrete i id.0)
      (λ (e : i ≡ id.0). subst (λ (x : ThreadNo). x.0 < threads) (thread_is u t m n (sym (put_same T.conns id.0 (HeldBy u m) i e) ∙ is)) low)
      (λ ne. s.by i t n (sym (put_other T.conns id.0 (HeldBy u m) i ne) ∙ is));
}
told_entry threads T w (Free u place) low need s = record {
  opened = s.opened;
  idle = λ i q is.
      let old = s.idle i q is in
      ⊎_elim
      (λ (c : (q ≡ place) × (with_spot T place Vacant (spot_no q) ≡ Vacant)).
      let v : Holds old.1 ≡ Leaves u = sym old.3 ∙ (ap (λ (p : PlaceNo). spot_at T p) c.0 ∙ need.1) in cc)
      (λ (c : (q ≢ place) × (with_spot T place Vacant (spot_no q) ≡ spot_at T q)). (old.0, old.1, old.2, c.1 ∙ old.3))
      (spot_cases T place Vacant q need.0 old.0);
  by = s.by;
}
told_entry threads T w (Close u m id) low need s = record {
  opened = λ i a b. dite (ℕ_discrete i id.0)
      (λ (e : i ≡ id.0). λ is. let c : Closed ≡ Unopened = sym (put_same T.conns id.0 Closed i e) ∙ is in cc)
      (λ ne. λ is. s.opened i a b (sym (put_other T.conns id.0 Closed i ne) ∙ is));
  idle = λ i q is. dite (ℕ_discrete i id.0)
      (λ (e : i ≡ id.0). let c : Closed ≡ IdleAt q = sym (put_same T.conns id.0 Closed i e) ∙ is in cc)
      (λ ne. s.idle i q (sym (put_other T.conns id.0 Closed i ne) ∙ is));
  by = λ i t n is. dite (ℕ_discrete i id.0)
      (λ (e : i ≡ id.0). let c : Closed ≡ HeldBy t n = sym (put_same T.conns id.0 Closed i e) ∙ is in cc)
      (λ ne. s.by i t n (sym (put_other T.conns id.0 Closed i ne) ∙ is));
}
told_entry threads T w (Look u place found) low need s = s
told_entry threads T w (Up u old) low need s = record { opened = s.opened; idle = s.idle; by = s.by }
told_entry threads T w (Down u old) low need s = record { opened = s.opened; idle = s.idle; by = s.by }
told_entry threads T w (Count u c) low need s = s
told_entry threads T w (Gate u draining) low need s = s
told_entry threads T w (SetGate u draining) low need s = record { opened = s.opened; idle = s.idle; by = s.by }
told_entry threads T w (Round u k old) low need s = record { opened = s.opened; idle = s.idle; by = s.by }

told_along : (threads : ℕ) (T : Table) (H : List Note) → AllBelow threads H → EachStep MeetsNeeds T H → IsTold threads T → IsTold threads (table_from T H)
told_along threads T [] b l s = s
told_along threads T (x ∷ xs) b l s = told_along threads (after T x) xs b.1 l.1 (told_entry threads T x.what x.entry b.0 l.0 s)

told_empty : (threads : ℕ) → IsTold threads empty_table
told_empty threads = record { opened = λ i a b. absurd (omega arith); idle = λ i q is. cc; by = λ i t n is. cc }

-- ---- what a session has, it holds

-- the connection is among the faces
abbrev IsIn : ℕ → List Face → Type 0
IsIn i [] = ⊥
IsIn i (f ∷ fs) = (f.id.0 ≡ i) ⊎ IsIn i fs

in_more : (i : ℕ) (fs gs : List Face) → IsIn i fs → IsIn i (fs ++ gs)
in_more i [] gs h = absurd h
in_more i (f ∷ fs) gs (inl e) = inl e
in_more i (f ∷ fs) gs (inr r) = inr (in_more i fs gs r)

in_last : (i : ℕ) (fs : List Face) (f : Face) → f.id.0 ≡ i → IsIn i (fs ++ f ∷ [])
in_last i [] f e = inl e
in_last i (g ∷ fs) f e = inr (in_last i fs f e)

in_without : (i : ℕ) (id : ConnId) (fs : List Face) → i ≢ id.0 → IsIn i fs → IsIn i (without id fs)
in_without i id [] ne h = absurd h
in_without i id (f ∷ fs) ne h =
    let go : (b : Bool) → (f.id.0 == id.0) ≡ b → IsIn i (f ∷ fs) → IsIn i (cond b (without id fs) (f ∷ without id fs)) =
    λ b. elim b as (λ b. (f.id.0 == id.0) ≡ b → IsIn i (f ∷ fs) → IsIn i (cond b (without id fs) (f ∷ without id fs))) [
      | true ↦ λ e q. ⊎_elim
          (λ (is : f.id.0 ≡ i). absurd (ne (sym is ∙ eqb-true f.id.0 id.0 e)))
          (λ r. in_without i id fs ne r) q
      | false ↦ λ e q. ⊎_elim (λ (is : f.id.0 ≡ i). inl is) (λ r. inr (in_without i id fs ne r)) q
    ] in go (f.id.0 == id.0) refl h

-- where a hold of the session names the connection, it is in its list
abbrev Lists : SessionNo → ℕ → Option Hold → List Face → Type 0
Lists n i o fs = (uses : ℕ) → o ≡ hold n uses → IsIn i fs

session_in : SessionNo → Option Hold → SessionNo
session_in d (Some h) = h.session
session_in d None = d

session_is : (n m : SessionNo) (j k : ℕ) → hold n j ≡ hold m k → n ≡ m
unfolding session_in
session_is n m j k e = ap (session_in n) e

comes : (n m : SessionNo) (i : ℕ) (id : ConnId) (k : ℕ) (o : Option Hold) (fs : List Face) → Lists n i o fs
    → Lists n i (cond (id.0 == i) (hold m k) o) (cond (m.0 == n.0) (fs ++ face_of id k ∷ []) fs)
comes n m i id k o fs l uses e = dite (ℕ_discrete id.0 i)
    (λ (is : id.0 ≡ i).
    let c : hold m k ≡ hold n uses = sym (ap (λ b. cond b (hold m k) o) (eq-eqb id.0 i is)) ∙ e in
    let same : m.0 ≡ n.0 = ap (λ (s : SessionNo). s.0) (session_is m n k uses c) in
    subst (IsIn i) (sym (ap (λ b. cond b (fs ++ face_of id k ∷ []) fs) (eq-eqb m.0 n.0 same))) (in_last i fs (face_of id k) is))
    (λ ne.
    let old = l uses (sym (ap (λ b. cond b (hold m k) o) (ne_eqb id.0 i ne)) ∙ e) in
    elim (m.0 == n.0) as (λ b. IsIn i (cond b (fs ++ face_of id k ∷ []) fs)) [ true ↦ in_more i fs (face_of id k ∷ []) old | false ↦ old ])

goes : (n m : SessionNo) (i : ℕ) (id : ConnId) (o : Option Hold) (fs : List Face) → Lists n i o fs
    → Lists n i (cond (id.0 == i) None o) (cond (m.0 == n.0) (without id fs) fs)
goes n m i id o fs l uses e = dite (ℕ_discrete id.0 i)
    (λ (is : id.0 ≡ i). let c : None ≡ hold n uses = sym (ap (λ b. cond b None o) (eq-eqb id.0 i is)) ∙ e in cc)
    (λ ne.
    let old = l uses (sym (ap (λ b. cond b None o) (ne_eqb id.0 i ne)) ∙ e) in
    elim (m.0 == n.0) as (λ b. IsIn i (cond b (without id fs) fs)) [ true ↦ in_without i id fs (λ e. ne (sym e)) old | false ↦ old ])

lists_entry : (n : SessionNo) (i : ℕ) (o : Option Hold) (fs : List Face) (e : Entry) → Lists n i o fs → Lists n i (hold_after i o e) (held_after n fs e)
lists_entry n i o fs (Open t m id) l = comes n m i id 0 o fs l
lists_entry n i o fs (Take t m first place id uses) l = comes n m i id uses o fs l
lists_entry n i o fs (Park t m id place uses) l = goes n m i id o fs l
lists_entry n i o fs (Close t m id) l = goes n m i id o fs l
lists_entry n i o fs (Free t place) l = l
lists_entry n i o fs (Look t place found) l = l
lists_entry n i o fs (Up t old) l = l
lists_entry n i o fs (Down t old) l = l
lists_entry n i o fs (Count t c) l = l
lists_entry n i o fs (Gate t draining) l = l
lists_entry n i o fs (SetGate t draining) l = l
lists_entry n i o fs (Round t k old) l = l

lists_along : (n : SessionNo) (i : ℕ) (o : Option Hold) (fs : List Face) (xs : List Note) → Lists n i o fs → Lists n i (hold_from i o xs) (held_from n fs xs)
lists_along n i o fs [] l = l
lists_along n i o fs (x ∷ xs) l = lists_along n i (hold_after i o x.entry) (held_after n fs x.entry) xs (lists_entry n i o fs x.entry l)

-- a session whose list is empty has nothing
none_has : (mine : List Note) (n : SessionNo) (i uses : ℕ) → held_by mine n ≡ [] → Has mine n i uses → ⊥
none_has mine n i uses none has = subst (IsIn i) none (lists_along n i None [] mine (λ u e. cc) uses has)

-- ---- a drain of one thread

all_own : (t : ThreadNo) (xs : List Note) → t.0 ≡ 0 → AllBelow 1 xs → own_of t xs ≡ xs
all_own t [] z b = refl
all_own t (x ∷ xs) z b =
    let low = b.0 in
    let is : is_by t x ≡ true = eq-eqb (thread_of x.entry).0 t.0 (omega arith) in
    rw is (ap (λ (ys : List Note). x ∷ ys) (all_own t xs z b.1))

below_behind : (k : ℕ) (xs ys : List Note) → AllBelow k (xs ++ ys) → AllBelow k ys
below_behind k [] ys b = b
below_behind k (x ∷ xs) ys b = below_behind k xs ys b.1

-- none of them is a Park
abbrev pub NoPark : Entry → Type 0
NoPark (Park t n id place uses) = ⊥
NoPark _ = Unit {0}

abbrev pub NoParks : List Entry → Type 0
NoParks [] = Unit {0}
NoParks (e ∷ es) = NoPark e × NoParks es

pub sweeps_park : (t : ThreadNo) (swept : List Swept) → NoParks (sweep_marks t swept)
sweeps_park t [] = tt
sweeps_park t (x ∷ swept) = (tt, (tt, sweeps_park t swept))

elsewhere_one : (row : ℕ) (e : Entry) (es : List Entry) → NoParks (cond (is_mark e) (e ∷ es) es) → ParksElsewhere row e × NoParks es
elsewhere_one row (Open t n id) es p = (tt, p.1)
elsewhere_one row (Park t n id place uses) es p = absurd p.0
elsewhere_one row (Take t n first place id uses) es p = (tt, p.1)
elsewhere_one row (Free t place) es p = (tt, p)
elsewhere_one row (Close t n id) es p = (tt, p.1)
elsewhere_one row (Look t place found) es p = (tt, p)
elsewhere_one row (Up t old) es p = (tt, p)
elsewhere_one row (Down t old) es p = (tt, p)
elsewhere_one row (Count t c) es p = (tt, p)
elsewhere_one row (Gate t draining) es p = (tt, p)
elsewhere_one row (SetGate t draining) es p = (tt, p.1)
elsewhere_one row (Round t k old) es p =
    let go : (b : Bool) → NoParks (cond b (Round t k old ∷ es) es) → NoParks es = λ b. elim b as (λ b. NoParks (cond b (Round t k old ∷ es) es) → NoParks es) [ true ↦ λ q. q.1 | false ↦ λ q. q ] in
    (tt, go (nat_lt old k) p)

pub elsewhere : (row : ℕ) (xs : List Note) → NoParks (marks_of xs) → AllElsewhere row xs
elsewhere row [] p = tt
elsewhere row (x ∷ xs) p = let r = elsewhere_one row x.entry (marks_of xs) p in (r.0, elsewhere row xs r.1)

-- behind a drain nothing rests at a place
none_rests : (old new : History) (added : List Note) (swept : List Swept) → Makes old new added → Drains old added swept → old.about.thread.0 ≡ 0 → old.about.threads ≡ 1
    → (i : ℕ) (q : PlaceNo) → RestsThere (table_after new.seen) i q → ⊥
none_rests old new added swept m d z one i q r =
    let t = old.about.thread in
    let below : AllBelow 1 new.seen = subst (λ n. AllBelow n new.seen) (ap (λ (a : About). a.threads) m.about ∙ one) m.one.threads in
    let between = m.seen.0 in
    let below_between : AllBelow 1 between = below_behind 1 old.seen between (subst (AllBelow 1) m.seen.1 below) in
    let same : between ≡ added = sym (all_own t between z below_between) ∙ gained old new added m in
    let T0 = table_after old.seen in
    let gate = plain (SetGate t true) in
    let T1 = after T0 gate in
    let is : between ≡ gate ∷ d.more = same ∙ d.sets in
    let table : table_after new.seen ≡ table_from T1 d.more = ap table_after m.seen.1 ∙ (table_from-append empty_table old.seen between ∙ ap (table_from T0) is) in
    let steps : EachStep MeetsNeeds T0 (gate ∷ d.more) =
    subst (EachStep MeetsNeeds T0) is (EachStep-second MeetsNeeds empty_table old.seen between (subst (EachStep MeetsNeeds empty_table) m.seen.1 m.one.legal)) in
    let below_more : AllBelow 1 d.more = (subst (AllBelow 1) is below_between).1 in
    let inside : spot_no q < 64 * 1 = (resting_counts 1 new.seen below m.one.legal).inside (spot_no q) r.1 r.3 in
    let row : q.row ≡ 0 = omega (arith, inside) in
    let first : q.row < old.about.threads = omega (arith, row, one) in
    let covered = d.all q.row q.place first r.0 in
    covered_empty T1 d.more q r.1 t r.0
    (elsewhere q.row d.more (subst NoParks (sym d.closes.marks) (sweeps_park t swept)))
    steps.1
    (subst (λ (xs : List Note). IsCovered t xs q) (sym (all_own t d.more z below_more)) covered)
    (ap (λ (T : Table). spot_at T q) (sym table) ∙ r.3)

-- behind a drain each connection that was opened is closed, where no session and not the caretaker has one
pub drained_closed : (old new : History) (added : List Note) (swept : List Swept) → Makes old new added → Drains old added swept → old.about.thread.0 ≡ 0 → old.about.threads ≡ 1
    → ((n : SessionNo) → held_by new.mine n ≡ []) → AllClosed new
drained_closed old new added swept m d z one none i low high =
    let T = table_after new.seen in
    let t = new.about.thread in
    let zero_new : t.0 ≡ 0 = ap (λ (a : About). a.thread.0) m.about ∙ z in
    let below : AllBelow 1 new.seen = subst (λ n. AllBelow n new.seen) (ap (λ (a : About). a.threads) m.about ∙ one) m.one.threads in
    let told : IsTold 1 T = told_along 1 empty_table new.seen below m.one.legal (told_empty 1) in
    let held : (u : ThreadNo) (n : SessionNo) → T.conns i ≡ HeldBy u n → ⊥ = λ u n e.
    let by = told.by i u n e in
    let its : u ≡ t = same_thread u t (eq-eqb u.0 t.0 (omega (arith, by, zero_new))) in
    none_has new.mine n i (T.uses i) (none n) (with_has new n i m.one (e ∙ ap (λ (x : ThreadNo). HeldBy x n) its)) in
    let go : (c : Conn) → T.conns i ≡ c → T.conns i ≡ Closed = λ c. elim c as (λ c. T.conns i ≡ c → T.conns i ≡ Closed) [
      | Unopened ↦ λ e. absurd (told.opened i low high e)
      | HeldBy u n ↦ λ e. absurd (held u n e)
      | IdleAt q ↦ λ e. absurd (none_rests old new added swept m d z one i q (told.idle i q e))
      | Closed ↦ λ e. e
    ] in go (T.conns i) refl
