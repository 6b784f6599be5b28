-- What rests after a drain that has covered every place is on its way back to the thread that parked it.
use Rattle.std.proofs.Common.{◌≡◌, ◌≢◌, ℕ, ◌<◌, Bool, true, false, cond, List, [], ◌∷◌, ◌++◌, ◌⊎◌, ⊎_elim, inl, inr}
use Rattle.std.proofs.Common.{sym, refl, ap, ◌∙◌, subst, arith, Option, None, append_assoc, eq-eqb}
use Rattle.hx_base.specs.declared.numbers.ThreadNo.{ThreadNo}
use Rattle.hx_base.specs.declared.numbers.SessionNo.{SessionNo}
use Rattle.hx_base.specs.declared.numbers.PlaceNo.{PlaceNo}
use Rattle.hx_base.specs.declared.numbers.Face.{Face}
use Rattle.hx_base.specs.declared.what.What.{What}
use Rattle.hx_pool.specs.declared.board.BoardTerms.{BoardTerms}
use Rattle.hx_pool.specs.declared.entries.Found.{Found}
use Rattle.hx_pool.specs.declared.entries.Found.TheVariants.{Resting}
use Rattle.hx_pool.specs.declared.entries.Entry.{Entry}
use Rattle.hx_pool.specs.declared.entries.Entry.TheVariants.{Open, Park, Take, Free, Close, Look, Up, Down, Count}
use Rattle.hx_pool.specs.declared.entries.Entry.TheVariants.{Gate, SetGate, Round}
use Rattle.hx_pool.specs.declared.entries.Note.{Note}
use Rattle.hx_pool.specs.Table.{Table, Holds, IsInRow, spot_no, spot_at, face_of, Needs, after, after_entry}
use Rattle.hx_pool.specs.Table.{empty_table}
use Rattle.hx_pool.specs.History.{plain, thread_of, is_by, own_of, table_from, table_after, EachStep, MeetsNeeds}
use Rattle.hx_pool.specs.Causes.{Among, IsTakeAt, IsUnavailable, IsCovered}
use Rattle.hx_pool.specs.Drain.{NoSetGate, IsDrained}
use Rattle.hx_pool.proofs.Histories.{table_from-append, EachStep-second, own_of-append}
use Rattle.hx_pool.proofs.Holding.{same_thread}
use Rattle.hx_places.specs.Turns.{Turn, Call, AtEase, HasParked, FoundDrain, turn_after, turn_from, first_turn, IsGate}
use Rattle.hx_places.specs.Turns.{TriesBack, FollowsPark, TurnsFrom, KeepsTurns}
use Rattle.hx_places.specs.Right.{IsPlainNote, ArePlain, IsRight}
use Rattle.hx_pool.proofs.Tables.{spot_no_inj}
use Rattle.hx_pool.proofs.Resting.{resting_counts}
use Rattle.hx_places.proofs.Rests.{Throughout, Since, ParksAt, now_rests, rests_since, no_take, none_taken, looks_show}

-- a covered place does not hold one connection throughout
covered_not : (p : ℕ) (f : Face) (T : Table) (xs : List Note) (t : ThreadNo) (place : PlaceNo) → p ≡ spot_no place
    → Throughout p f T xs → EachStep MeetsNeeds T xs → IsCovered t (own_of t xs) place → ⊥
covered_not p f T xs t place same r l c = ⊎_elim
    (λ (taken : Among (IsTakeAt place) (own_of t xs)). none_taken p f T xs t place same r taken)
    (λ (none : IsUnavailable t (own_of t xs) place). ⊎_elim
    (λ (one : (found : Found) × ((g : Face) → true ≡ true → found ≢ Resting g)
    × Among (λ e. e ≡ Look t place found) (own_of t xs)). one.1 f refl
    (looks_show p f T xs t place one.0 same r l one.2))
    (λ (two : (g : Face) × (h : Face) × (g ≢ h) × Among (λ e. e ≡ Look t place (Resting g)) (own_of t xs)
    × Among (λ e. e ≡ Look t place (Resting h)) (own_of t xs)).
    two.2 (rest_inj two.0 two.1
    (looks_show p f T xs t place (Resting two.0) same r l two.3
    ∙ sym (looks_show p f T xs t place (Resting two.1) same r l two.4))))
    none) c
  where
    rest_inj : (g h : Face) → Resting g ≡ Resting h → g ≡ h
    rest_inj g h e = cc

-- the drain state stays while nobody sets it
abbrev SetsNoGate : Entry → Type 0
SetsNoGate e = elim e [ SetGate t draining ↦ ⊥ | _ ↦ Unit {0} ]

gate_stays : (T : Table) (w : Option What) (e : Entry) → SetsNoGate e → (after_entry T w e).draining ≡ T.draining
gate_stays T w (Open t n id) u = refl
gate_stays T w (Park t n id place uses) u = refl
gate_stays T w (Take t n first place id uses) u = refl
gate_stays T w (Free t place) u = refl
gate_stays T w (Close t n id) u = refl
gate_stays T w (Look t place found) u = refl
gate_stays T w (Up t old) u = refl
gate_stays T w (Down t old) u = refl
gate_stays T w (Count t c) u = refl
gate_stays T w (Gate t draining) u = refl
gate_stays T w (SetGate t draining) u = absurd u
gate_stays T w (Round t k old) u = refl

drains_on : (T : Table) (xs : List Note) → NoSetGate xs → T.draining ≡ true → (table_from T xs).draining ≡ true
drains_on T [] u d = d
drains_on T (x ∷ xs) u d = drains_on (after T x) xs u.1 (gate_stays T x.what x.entry u.0 ∙ d)

no_set_first : (xs ys : List Note) → NoSetGate (xs ++ ys) → NoSetGate xs
no_set_first [] ys u = tt
no_set_first (x ∷ xs) ys u = (u.0, no_set_first xs ys u.1)

no_set_second : (xs ys : List Note) → NoSetGate (xs ++ ys) → NoSetGate ys
no_set_second [] ys u = u
no_set_second (x ∷ xs) ys u = no_set_second xs ys u.1

plain_second : (xs ys : List Note) → ArePlain (xs ++ ys) → ArePlain ys
plain_second [] ys a = a
plain_second (x ∷ xs) ys a = plain_second xs ys a.1

turns_second : (max : Option ℕ) (s : Turn) (xs ys : List Note) → TurnsFrom max s (xs ++ ys)
    → TurnsFrom max (turn_from s xs) ys
turns_second max s [] ys a = a
turns_second max s (x ∷ xs) ys a = turns_second max (turn_after s x.entry) xs ys a.1

-- the first is the thread's own, or another's
split : (t : ThreadNo) (x : Note) (xs : List Note) (P : List Note → Type 0) → P (own_of t (x ∷ xs))
    → ((thread_of x.entry ≡ t) × (own_of t (x ∷ xs) ≡ x ∷ own_of t xs) × P (x ∷ own_of t xs))
    ⊎ ((own_of t (x ∷ xs) ≡ own_of t xs) × P (own_of t xs))
split t x xs P h =
    let Q : Bool → Type 0 = λ b. is_by t x ≡ b → P (cond b (x ∷ own_of t xs) (own_of t xs))
    → ((thread_of x.entry ≡ t) × (cond b (x ∷ own_of t xs) (own_of t xs) ≡ x ∷ own_of t xs)
    × P (x ∷ own_of t xs)) ⊎ ((cond b (x ∷ own_of t xs) (own_of t xs) ≡ own_of t xs) × P (own_of t xs)) in
    let go : (b : Bool)
    → Q b = λ b. elim b as Q
    [ true ↦ λ e k. inl (same_thread (thread_of x.entry) t e, refl, k) | false ↦ λ e k. inr (refl, k) ] in
    go (is_by t x) refl h

-- where a try to take the value back is due, and it rests on, the thread made no entry
tries_none : (T : Table) (x : Note) (p : ℕ) (place : PlaceNo) (f : Face) → p ≡ spot_no place → T.spots p ≡ Holds f
    → (after T x).spots p ≡ Holds f → Needs T x.entry → TriesBack place f x.entry → ⊥
tries_none T x p place f same now then need tries = by_entry x.entry x.what need then tries
  where
    by_entry : (e : Entry) (w : Option What) → Needs T e → (after_entry T w e).spots p ≡ Holds f
        → TriesBack place f e → ⊥
    by_entry (Open t n id) w need then tries = tries
    by_entry (Park t n id at uses) w need then tries = tries
    by_entry (Take t n first at id uses) w need then tries =
        no_take p f T (Take t n first at id uses) w place same then tries
    by_entry (Free t at) w need then tries = tries
    by_entry (Close t n id) w need then tries = tries
    by_entry (Look t at found) w need then tries =
        tries.1 (need.1 ∙ ap Rattle.hx_pool.specs.Table.found_of (ap T.spots (ap spot_no tries.0 ∙ sym same) ∙ now))
    by_entry (Up t old) w need then tries = tries
    by_entry (Down t old) w need then tries = tries
    by_entry (Count t c) w need then tries = tries
    by_entry (Gate t draining) w need then tries = tries
    by_entry (SetGate t draining) w need then tries = tries
    by_entry (Round t k old) w need then tries = tries

after_gate : (max : Option ℕ) (s : Turn) (T : Table) (xs : List Note) (t : ThreadNo) (p : ℕ) (place : PlaceNo)
    (f : Face) → p ≡ spot_no place → s.call ≡ FoundDrain place f → Throughout p f T xs → EachStep MeetsNeeds T xs
    → TurnsFrom max s (own_of t xs) → own_of t xs ≡ []
after_gate max s T [] t p place f same due r l turns = refl
after_gate max s T (x ∷ xs) t p place f same due r l turns = ⊎_elim
    (λ (own : (thread_of x.entry ≡ t) × (own_of t (x ∷ xs) ≡ x ∷ own_of t xs) × TurnsFrom max s (x ∷ own_of t xs)).
    absurd (tries_none T x p place f same r.0 (now_rests p f (after T x) xs r.1) l.0
    (subst (λ c. FollowsPark c x.entry) due own.2.0.1)))
    (λ (other : (own_of t (x ∷ xs) ≡ own_of t xs) × TurnsFrom max s (own_of t xs)). other.0
    ∙ after_gate max s (after T x) xs t p place f same due r.1 l.1 other.1)
    (split t x xs (TurnsFrom max s) turns)

-- an entry that is a Gate
pub record GateOf (x : Note) : Type 0 where
  pub t : ThreadNo
  pub draining : Bool
  pub is : x.entry ≡ Gate t draining

gate_of : (x : Note) → IsGate x.entry → GateOf x
gate_of x g = by_entry x.entry refl g
  where
    by_entry : (e : Entry) → x.entry ≡ e → IsGate e → GateOf x
    by_entry (Open t n id) is g = absurd g
    by_entry (Park t n id at uses) is g = absurd g
    by_entry (Take t n first at id uses) is g = absurd g
    by_entry (Free t at) is g = absurd g
    by_entry (Close t n id) is g = absurd g
    by_entry (Look t at found) is g = absurd g
    by_entry (Up t old) is g = absurd g
    by_entry (Down t old) is g = absurd g
    by_entry (Count t c) is g = absurd g
    by_entry (Gate t draining) is g = record { t = t; draining = draining; is = is }
    by_entry (SetGate t draining) is g = absurd g
    by_entry (Round t k old) is g = absurd g

after_park : (max : Option ℕ) (s : Turn) (T : Table) (xs : List Note) (t : ThreadNo) (p : ℕ) (place : PlaceNo)
    (f : Face) → p ≡ spot_no place → s.call ≡ HasParked place f → Throughout p f T xs → EachStep MeetsNeeds T xs
    → NoSetGate xs → T.draining ≡ true → ArePlain xs
    → TurnsFrom max s (own_of t xs) → (own_of t xs ≡ []) ⊎ (own_of t xs ≡ plain (Gate t true) ∷ [])
after_park max s T [] t p place f same due r l u d a turns = inl refl
after_park max s T (x ∷ xs) t p place f same due r l u d a turns = ⊎_elim
    (λ (own : (thread_of x.entry ≡ t) × (own_of t (x ∷ xs) ≡ x ∷ own_of t xs) × TurnsFrom max s (x ∷ own_of t xs)).
    let gate = gate_of x (subst (λ c. FollowsPark c x.entry) due own.2.0.1) in
    let drains : gate.draining ≡ true = subst (Needs T) gate.is l.0 ∙ d in
    let mine : gate.t ≡ t = sym (ap thread_of gate.is) ∙ own.0 in
    let entry : x.entry ≡ Gate t true = gate.is ∙ (λ i. Gate (mine i) (drains i)) in
    let what : x.what ≡ None = nothing x.entry x.what entry a.0 in
    let is : x ≡ plain (Gate t true) = λ i. record { entry = entry i; what = what i } in
    let next : (turn_after s x.entry).call ≡ FoundDrain place f = ap (λ e. (turn_after s e).call) entry
    ∙ ap (λ c. Rattle.hx_places.specs.Turns.gate_after c true) due in
    let none = after_gate max (turn_after s x.entry) (after T x) xs t p place f same next r.1 l.1 own.2.1 in
    inr (own.1 ∙ (λ i. is i ∷ none i)))
    (λ (other : (own_of t (x ∷ xs) ≡ own_of t xs) × TurnsFrom max s (own_of t xs)). ⊎_elim
    (λ (e : own_of t xs ≡ []). inl (other.0 ∙ e))
    (λ (e : own_of t xs ≡ plain (Gate t true) ∷ []). inr (other.0 ∙ e))
    (after_park max s (after T x) xs t p place f same due r.1 l.1 u.1
    (gate_stays T x.what x.entry u.0 ∙ d) a.1 other.1))
    (split t x xs (TurnsFrom max s) turns)
  where
    nothing : (e : Entry) (w : Option What) → e ≡ Gate t true → IsPlainNote record { entry = e; what = w } → w ≡ None
    nothing e w is plainly = subst (λ z. IsPlainNote record { entry = z; what = w }) is plainly

-- a Park with its parts
pub record ParkOf (x : Note) (p : ℕ) (f : Face) : Type 0 where
  pub t : ThreadNo
  pub n : SessionNo
  pub place : PlaceNo
  pub is : x.entry ≡ Park t n f.id place f.uses
  pub at : p ≡ spot_no place

park_of : (x : Note) (p : ℕ) (f : Face) → ParksAt p f x.entry → ParkOf x p f
park_of x p f k = by_entry x.entry refl k
  where
    by_entry : (e : Entry) → x.entry ≡ e → ParksAt p f e → ParkOf x p f
    by_entry (Open t n id) is k = absurd k
    by_entry (Park t n id at uses) is k =
        record { t = t; n = n; place = at; is = is ∙ (λ i. Park t n ((sym k.1 i).id) at ((sym k.1 i).uses)); at = k.0 }
    by_entry (Take t n first at id uses) is k = absurd k
    by_entry (Free t at) is k = absurd k
    by_entry (Close t n id) is k = absurd k
    by_entry (Look t at found) is k = absurd k
    by_entry (Up t old) is k = absurd k
    by_entry (Down t old) is k = absurd k
    by_entry (Count t c) is k = absurd k
    by_entry (Gate t draining) is k = absurd k
    by_entry (SetGate t draining) is k = absurd k
    by_entry (Round t k' old) is k = absurd k

-- where the last SetGate is a draining one by t, and t has covered each place after it, all that rests is pending
pub drained : (b : BoardTerms) (H : List Note) (t : ThreadNo) → IsRight b H → IsDrained b.threads H t
drained b H t right before later parts unset covered place f in_row holds =
    let p : ℕ = spot_no place in
    let set : Note = plain (SetGate t true) in
    let T1 : Table = after (table_after before) set in
    let legal : EachStep MeetsNeeds T1 later =
    (EachStep-second MeetsNeeds empty_table before (set ∷ later)
    (subst (EachStep MeetsNeeds empty_table) parts right.legal)).1 in
    let ends : table_after H ≡ table_from T1 later = ap table_after parts
    ∙ table_from-append empty_table before (set ∷ later) in
    let low : place.row < b.threads =
    (let inside = (resting_counts b.threads H right.threads right.legal).inside p f holds in omega arith) in
    ⊎_elim
    (λ (all : Throughout p f T1 later). absurd
    (covered_not p f T1 later t place refl all legal (covered place.row place.place low in_row)))
    (λ (s : Since p f T1 later).
    let k = park_of s.park p f s.parks in
    let T2 : Table = after (table_from T1 s.before) s.park in
    let front : List Note = before ++ set ∷ s.before in
    let whole : H ≡ front ++ s.park ∷ s.later = parts
    ∙ (ap (λ l. before ++ set ∷ l) s.whole ∙ sym (append_assoc before (set ∷ s.before) (s.park ∷ s.later))) in
    let unset' : NoSetGate (s.before ++ s.park ∷ s.later) = subst NoSetGate s.whole unset in
    let legal' : EachStep MeetsNeeds T2 s.later =
    (EachStep-second MeetsNeeds T1 s.before (s.park ∷ s.later) (subst (EachStep MeetsNeeds T1) s.whole legal)).1 in
    let behind = no_set_second s.before (s.park ∷ s.later) unset' in
    let drains : T2.draining ≡ true = gate_stays (table_from T1 s.before) s.park.what s.park.entry behind.0
    ∙ drains_on T1 s.before (no_set_first s.before (s.park ∷ s.later) unset') refl in
    let plainly = (plain_second front (s.park ∷ s.later) (subst ArePlain whole right.plain)).1 in
    let mine : thread_of s.park.entry ≡ k.t = ap thread_of k.is in
    let own : own_of k.t H ≡ own_of k.t front ++ s.park ∷ own_of k.t s.later = ap (own_of k.t) whole
    ∙ (own_of-append k.t front (s.park ∷ s.later)
    ∙ ap (λ (c : Bool). own_of k.t front ++ cond c (s.park ∷ own_of k.t s.later) (own_of k.t s.later))
    (eq-eqb (thread_of s.park.entry).0 k.t.0 (ap (λ (u : ThreadNo). u.0) mine))) in
    let turns = turns_second b.rules.max first_turn (own_of k.t front) (s.park ∷ own_of k.t s.later)
    (subst (TurnsFrom b.rules.max first_turn) own (right.turns k.t)) in
    let here : Turn = turn_after (turn_from first_turn (own_of k.t front)) s.park.entry in
    let due : here.call ≡ HasParked k.place f =
    ap (λ e. (turn_after (turn_from first_turn (own_of k.t front)) e).call) k.is in
    record {
      before = front;
      park = s.park;
      later = s.later;
      parts = whole;
      t = k.t;
      n = k.n;
      is_park = k.is
          ∙ ap (λ q. Park k.t k.n f.id q f.uses)
          (same_place k.place place
          (parked_in (table_from T1 s.before) s.park k.t k.n f k.place k.is
          (EachStep-second MeetsNeeds T1 s.before (s.park ∷ s.later)
          (subst (EachStep MeetsNeeds T1) s.whole legal)).0) in_row (sym k.at));
      due = after_park b.rules.max here T2 s.later k.t p k.place f k.at due s.rests legal' behind.1 drains plainly
          turns.1;
    })
    (rests_since p f T1 later (ap (λ (T : Table). T.spots p) (sym ends) ∙ holds))
  where
    same_place : (q r : PlaceNo) → IsInRow q → IsInRow r → spot_no q ≡ spot_no r → q ≡ r
    same_place q r a c e = spot_no_inj q r a c e

    parked_in : (T : Table) (x : Note) (t : ThreadNo) (n : SessionNo) (f : Face) (q : PlaceNo)
        → x.entry ≡ Park t n f.id q f.uses → Needs T x.entry → IsInRow q
    parked_in T x t n f q is need = (subst (Needs T) is need).inside
