-- What the caretaker closes had rested: each link that it buries is that of a connection which rested at its seat, as it rested.
use Rattle.std.proofs.Common.{◌≡◌, ◌⊎◌, ⊎_elim, inl, inr, ℕ, zero, suc, ◌+◌, false, List, [], ◌∷◌, ◌++◌, refl, sym, ap, ◌∙◌, subst, arith, Option, Some}
use Rattle.std.specs.Prelude.{Contains, slice_get}
use Rattle.std.proofs.lemmas.List.Elements.{Contains-append_left, Contains-append_right, Contains-append_cases, Contains-push}
use mathlib.Core.Logic.{dite}
use native.Mathlib.Decide.{ℕ_discrete}
use Rattle.hx_base.specs.declared.numbers.ConnId.{ConnId}
use Rattle.hx_base.specs.declared.numbers.PlaceNo.{PlaceNo}
use Rattle.hx_base.specs.declared.numbers.ServerNo.{ServerNo}
use Rattle.hx_base.specs.declared.numbers.SessionNo.{SessionNo}
use Rattle.hx_base.specs.declared.numbers.ThreadNo.{ThreadNo}
use Rattle.hx_base.specs.declared.what.What.{What}
use Rattle.hx_conn.specs.WhatTold.{what_of_link}
use Rattle.hx_link.specs.Told.{LinkState}
use Rattle.hx_pool.specs.declared.entries.Entry.{Entry}
use Rattle.hx_pool.specs.declared.entries.Entry.TheVariants.{Open, Park, Take, Free, Close, Look, Up, Down, Count, Gate, SetGate, Round}
use Rattle.hx_pool.specs.declared.entries.Note.{Note}
use Rattle.hx_pool.specs.Causes.{caretaker}
use Rattle.hx_pool.specs.Taking.{taken}
use Rattle.hx_pool.specs.Table.{Table, Unopened, HeldBy, IdleAt, Closed, Needs, after_entry, after, empty_table, face_of}
use Rattle.hx_pool.specs.History.{marks_of, table_from, table_after, what_of, EachStep, MeetsNeeds, IsLegal}
use Rattle.hx_pool.specs.SeatView.{About, History, Makes}
use Rattle.hx_pool.proofs.Histories.{table_from-append, EachStep-first, EachStep-second, marks_of-append}
use Rattle.hx_pool.proofs.Tables.{put_same, put_other, Sound, sound_at, sound_after, sound_along}
use Rattle.hx_caretaker.specs.Caring.{EachSweep}
use Rattle.hx_caretaker.specs.Sweeps.{Swept, Sweep, swept_marks, sweep_marks, IsItsLink, AreTheirLinks, no_sweep}
use Rattle.hx_course.specs.Calls.{AreAlone}
use Rattle.hx_course.specs.Graves.{Grave, OfConn, grave}
use Rattle.hx_course.specs.Places.{IsAtRest}
use Rattle.hx_course.specs.Sweeping.{server_no, swept_graves, sweep_graves}
use Rattle.hx_course.proofs.CareLemmas.{NoParks, HasSweepMarks, IsSwept, CaredAt, what_along, parks_both, sweep_parks, IsOneSwept, idle_before}
use Rattle.hx_course.proofs.TableLemmas.{none_in, one_in, seen_alone, legal_alone, mark_note}

-- the caretaker of the thread has the connection, or it is closed
abbrev IsTaken : Table → ThreadNo → ConnId → Type 0
IsTaken T t id = (T.conns id.0 ≡ HeldBy t caretaker) ⊎ (T.conns id.0 ≡ Closed)

taken_same : (T S : Table) (t : ThreadNo) (id : ConnId) → S.conns id.0 ≡ T.conns id.0 → IsTaken T t id → IsTaken S t id
taken_same T S t id e (inl h) = inl (e ∙ h)
taken_same T S t id e (inr c) = inr (e ∙ c)

taken_entry : (T : Table) (w : Option What) (e : Entry) (t : ThreadNo) (id : ConnId) → Sound T → Needs T e → IsTaken T t id → IsTaken (after_entry T w e) t id
taken_entry T w (Open u n i) t id s need k = taken_same T (after_entry T w (Open u n i)) t id (put_other T.conns i.0 (HeldBy u n) id.0 (λ e. opened k (s.fresh id.0 (omega (arith, need.1))))) k
  where
    opened : IsTaken T t id → T.conns id.0 ≡ Unopened → ⊥
    opened (inl h) none = let e = sym h ∙ none in cc
    opened (inr c) none = let e = sym c ∙ none in cc
taken_entry T w (Park u n i place uses) t id s need k = taken_same T (after_entry T w (Park u n i place uses)) t id (put_other T.conns i.0 (IdleAt place) id.0 (λ e. parked k (ap T.conns e ∙ need.held))) k
  where
    parked : IsTaken T t id → T.conns id.0 ≡ HeldBy u n → ⊥
    parked (inl h) by = let e : HeldBy t caretaker ≡ HeldBy u n = sym h ∙ by in let is : caretaker ≡ n = cc in need.session (ap (λ (m : SessionNo). m.0) (sym is))
    parked (inr c) by = let e = sym c ∙ by in cc
taken_entry T w (Take u n first place i uses) t id s need k =
    taken_same T (after_entry T w (Take u n first place i uses)) t id (put_other T.conns i.0 (HeldBy u n) id.0 (λ e. idle k (ap T.conns e ∙ (s.rests place (face_of i uses) need.0 need.1).0))) k
  where
    idle : IsTaken T t id → T.conns id.0 ≡ IdleAt place → ⊥
    idle (inl h) at = let e = sym h ∙ at in cc
    idle (inr c) at = let e = sym c ∙ at in cc
taken_entry T w (Close u n i) t id s need k = dite (ℕ_discrete i.0 id.0)
    (λ e. inr (put_same T.conns i.0 Closed id.0 (sym e)))
    (λ ne. taken_same T (after_entry T w (Close u n i)) t id (put_other T.conns i.0 Closed id.0 (λ e. ne (sym e))) k)
taken_entry T w (Free u place) t id s need k = k
taken_entry T w (Look u place found) t id s need k = k
taken_entry T w (Up u old) t id s need k = k
taken_entry T w (Down u old) t id s need k = k
taken_entry T w (Count u c) t id s need k = k
taken_entry T w (Gate u draining) t id s need k = k
taken_entry T w (SetGate u draining) t id s need k = k
taken_entry T w (Round u r old) t id s need k = k

taken_along : (T : Table) (xs : List Note) (t : ThreadNo) (id : ConnId) → Sound T → EachStep MeetsNeeds T xs → IsTaken T t id → IsTaken (table_from T xs) t id
taken_along T [] t id s l k = k
taken_along T (x ∷ xs) t id s l k = taken_along (after T x) xs t id (sound_after T x s l.0) l.1 (taken_entry T x.what x.entry t id s l.0 k)

not_idle : (T : Table) (t : ThreadNo) (id : ConnId) (place : PlaceNo) → IsTaken T t id → T.conns id.0 ≡ IdleAt place → ⊥
not_idle T t id place (inl h) at = let e = sym h ∙ at in cc
not_idle T t id place (inr c) at = let e = sym c ∙ at in cc

parks_first : (xs ys : List Entry) → NoParks (xs ++ ys) → NoParks xs
parks_first [] ys a = tt
parks_first (x ∷ xs) ys a = (a.0, parks_first xs ys a.1)

-- a list in two parts is cut at z in the first or in the second
cut_in : {A : Type 0} (xs ys before behind : List A) (z : A) → xs ++ ys ≡ before ++ z ∷ behind
    → ((b : List A) × (xs ≡ before ++ z ∷ b)) ⊎ ((b : List A) × (before ≡ xs ++ b) × (ys ≡ b ++ z ∷ behind))
cut_in [] ys before behind z e = inr (before, refl, e)
cut_in (x ∷ xs) ys [] behind z e = inl (xs, cc)
cut_in (x ∷ xs) ys (y ∷ before) behind z e =
    let head : x ≡ y = cc in
    let tail : xs ++ ys ≡ before ++ z ∷ behind = cc in
    let r = cut_in xs ys before behind z tail in
    ⊎_elim (λ (k : (b : _) × (xs ≡ before ++ z ∷ b)). inl (k.0, ap (λ (u : _). u ∷ xs) head ∙ ap (λ l. y ∷ l) k.1))
    (λ (k : (b : _) × (before ≡ xs ++ b) × (ys ≡ b ++ z ∷ behind)). inr (k.0, ap (λ (u : _). u ∷ before) (sym head) ∙ ap (λ l. x ∷ l) k.1, k.2)) r

-- ---- one sweep

-- a grave of a sweep is that of one of its connections
one_swept : (new : History) (server n : ServerNo) (t : ThreadNo) (swept : List Swept) (links : List LinkState) (id : ConnId) (l : LinkState) → AreTheirLinks new swept links
    → Contains (swept_graves server swept links) (grave (OfConn n id) l) → (n ≡ server) × IsOneSwept new t swept id l
one_swept new server n t [] [] id l a c = absurd (none_in (grave (OfConn n id) l) c)
one_swept new server n t [] (k ∷ links) id l a c = absurd a
one_swept new server n t (x ∷ swept) [] id l a c = absurd a
one_swept new server n t (x ∷ swept) (k ∷ links) id l a c = ⊎_elim
    (λ (h : Contains (grave (OfConn server x.face.id) k ∷ []) (grave (OfConn n id) l)).
    let e = one_in (grave (OfConn server x.face.id) k) (grave (OfConn n id) l) h in
    let o : OfConn server x.face.id ≡ OfConn n id = ap (λ (g : Grave). g.owner) e in
    let link : k ≡ l = ap (λ (g : Grave). g.link) e in
    let id_is : x.face.id ≡ id = cc in
    let n_is : n ≡ server = cc in (
      n_is,
      record {
        x = x;
        id_is = id_is;
        link = subst (λ (j : LinkState). IsItsLink new x j) link a.0;
        takes = Contains-append_left (swept_marks t x) (sweep_marks t swept) (Take t caretaker false x.place x.face.id x.face.uses)
            (Contains-append_left (Take t caretaker false x.place x.face.id x.face.uses ∷ []) (Close t caretaker x.face.id ∷ []) (Take t caretaker false x.place x.face.id x.face.uses)
            (Contains-push [] (Take t caretaker false x.place x.face.id x.face.uses)));
        closes = Contains-append_left (swept_marks t x) (sweep_marks t swept) (Close t caretaker x.face.id)
            (Contains-push (Take t caretaker false x.place x.face.id x.face.uses ∷ []) (Close t caretaker x.face.id));
      },
    ))
    (λ (h : Contains (swept_graves server swept links) (grave (OfConn n id) l)).
    let r = one_swept new server n t swept links id l a.1 h in (
      r.0,
      record {
        x = r.1.x;
        id_is = r.1.id_is;
        link = r.1.link;
        takes = Contains-append_right (swept_marks t x) (sweep_marks t swept) (Take t caretaker false r.1.x.place r.1.x.face.id r.1.x.face.uses) r.1.takes;
        closes = Contains-append_right (swept_marks t x) (sweep_marks t swept) (Close t caretaker r.1.x.face.id) r.1.closes;
      },
    ))
    (Contains-append_cases (grave (OfConn server x.face.id) k ∷ []) (swept_graves server swept links) (grave (OfConn n id) l) c)

-- what was closed had rested before the call, and its link told what stood beside it
record RestedBefore (old : History) (id : ConnId) (l : LinkState) : Type 0 where
  place : PlaceNo
  rests : (table_after old.seen).conns id.0 ≡ IdleAt place
  beside : what_of old.seen id.0 ≡ Some (what_of_link l)

rested_before : (old new : History) (es : List Note) (swept : List Swept) (m : Makes old new es) → old.about.threads ≡ 1 → HasSweepMarks old.about.thread es swept → (id : ConnId) (l : LinkState)
    → IsOneSwept new old.about.thread swept id l → RestedBefore old id l
rested_before old new es swept m one marks id l o =
    let x = o.x in
    let k = o.link.rested in
    let t = new.about.thread in
    let i = x.face.id in
    let same_thread : t ≡ old.about.thread = ap (λ (b : About). b.thread) m.about in
    let z : Note = taken t caretaker false x.place x.face in
    let e : old.seen ++ es ≡ k.before ++ z ∷ k.behind = sym (seen_alone old new es m one) ∙ k.parts in
    let parks : NoParks (marks_of es) = subst NoParks (sym marks.marks) (parks_both marks.lead (sweep_marks old.about.thread swept) marks.parks (sweep_parks old.about.thread swept)) in
    let S : Table = table_after k.before in
    let T : Table = table_after old.seen in
    let legal : EachStep MeetsNeeds T es = legal_alone old new es m one in
    let sound_old : Sound T = sound_at old.seen m.was.legal in
    let whole : EachStep MeetsNeeds empty_table (k.before ++ z ∷ k.behind) = subst IsLegal k.parts m.one.legal in
    let sound : Sound S = sound_at k.before (EachStep-first MeetsNeeds empty_table k.before (z ∷ k.behind) whole) in
    let steps : EachStep MeetsNeeds S (z ∷ k.behind) = EachStep-second MeetsNeeds empty_table k.before (z ∷ k.behind) whole in
    let idle : S.conns i.0 ≡ IdleAt x.place = (sound.rests x.place (face_of i x.face.uses) steps.0.0 steps.0.1).0 in
    ⊎_elim
    (λ (c : (b : List Note) × (old.seen ≡ k.before ++ z ∷ b)).
    let legal_b : EachStep MeetsNeeds empty_table (k.before ++ z ∷ c.0) = subst IsLegal c.1 m.was.legal in
    let steps_b : EachStep MeetsNeeds S (z ∷ c.0) = EachStep-second MeetsNeeds empty_table k.before (z ∷ c.0) legal_b in
    let took : IsTaken (after S z) t i = inl (put_same S.conns i.0 (HeldBy t caretaker) i.0 refl) in
    let is : T ≡ table_from (after S z) c.0 = ap table_after c.1 ∙ table_from-append empty_table k.before (z ∷ c.0) in
    let stays : IsTaken T t i = subst (λ (R : Table). IsTaken R t i) (sym is) (taken_along (after S z) c.0 t i (sound_after S z sound steps_b.0) steps_b.1 took) in
    let take : Entry = Take old.about.thread caretaker false x.place x.face.id x.face.uses in
    let has : Contains (marks_of es) take = subst (λ (es : List Entry). Contains es take) (sym marks.marks) (Contains-append_right marks.lead (sweep_marks old.about.thread swept) take o.takes) in
    let cut = mark_note es take has in
    let R : Table = table_from T cut.0 in
    let steps_c : EachStep MeetsNeeds T (cut.0 ++ cut.1 ∷ cut.2) = subst (EachStep MeetsNeeds T) cut.3 legal in
    let first_c = EachStep-first MeetsNeeds T cut.0 (cut.1 ∷ cut.2) steps_c in
    let sound_c : Sound R = sound_along T cut.0 sound_old first_c in
    let needs : Needs R take = subst (Needs R) cut.4 (EachStep-second MeetsNeeds T cut.0 (cut.1 ∷ cut.2) steps_c).0 in
    let idle_c : R.conns i.0 ≡ IdleAt x.place = (sound_c.rests x.place (face_of i x.face.uses) needs.0 needs.1).0 in
    absurd (not_idle R t i x.place (taken_along T cut.0 t i sound_old first_c stays) idle_c))
    (λ (c : (b : List Note) × (k.before ≡ old.seen ++ b) × (es ≡ b ++ z ∷ k.behind)).
    let cut : marks_of es ≡ marks_of c.0 ++ marks_of (z ∷ k.behind) = ap marks_of c.2 ∙ marks_of-append c.0 (z ∷ k.behind) in
    let none : NoParks (marks_of c.0) = parks_first (marks_of c.0) (marks_of (z ∷ k.behind)) (subst NoParks cut parks) in
    let is : S ≡ table_from T c.0 = ap table_after c.1 ∙ table_from-append empty_table old.seen c.0 in
    let rests : T.conns i.0 ≡ IdleAt x.place = idle_before i.0 x.place T c.0 none (ap (λ (R : Table). R.conns i.0) (sym is) ∙ idle) in
    let beside : what_of old.seen i.0 ≡ Some (what_of_link l) = sym (what_along i.0 T c.0 none) ∙ (ap (λ (R : Table). R.whats i.0) (sym is) ∙ k.what) in
    record { place = x.place; rests = ap (λ (n : ConnId). T.conns n.0) (sym o.id_is) ∙ rests; beside = ap (λ (n : ConnId). what_of old.seen n.0) (sym o.id_is) ∙ beside })
    (cut_in old.seen es k.before k.behind z e)

-- ---- at all seats

from_zero : (i : ℕ) → 0 + i ≡ i
from_zero i = omega arith

at_zero : (i : ℕ) → i ≡ i + 0
at_zero i = omega arith

at_next : (i k : ℕ) → (i + 1) + k ≡ i + suc k
at_next i k = omega arith

-- the seat of a sweep, before the call and after it
record SeatOf (P : ℕ → History → History → Sweep → Type 0) (i : ℕ) (old new : List History) (k : ℕ) (x : Sweep) : Type 0 where
  before : History
  after : History
  at_old : slice_get old k ≡ Some before
  at_new : slice_get new k ≡ Some after
  does : P (i + k) before after x

seat_of : (P : ℕ → History → History → Sweep → Type 0) (i : ℕ) (old new : List History) (sweeps : List Sweep) (k : ℕ) (x : Sweep) → EachSweep P i old new sweeps → slice_get sweeps k ≡ Some x
    → SeatOf P i old new k x
seat_of P i [] [] [] k x a e = cc
seat_of P i [] [] (y ∷ sweeps) k x a e = absurd a
seat_of P i [] (g ∷ new) sweeps k x a e = absurd a
seat_of P i (f ∷ old) [] sweeps k x a e = absurd a
seat_of P i (f ∷ old) (g ∷ new) [] k x a e = absurd a
seat_of P i (f ∷ old) (g ∷ new) (y ∷ sweeps) zero x a e =
    let is : y ≡ x = cc in
    record { before = f; after = g; at_old = refl; at_new = refl; does = subst (λ (n : ℕ). P n f g x) (at_zero i) (subst (λ (z : Sweep). P i f g z) is a.0) }
seat_of P i (f ∷ old) (g ∷ new) (y ∷ sweeps) (suc k) x a e =
    let r = seat_of P (i + 1) old new sweeps k x a.1 e in
    record { before = r.before; after = r.after; at_old = r.at_old; at_new = r.at_new; does = subst (λ (n : ℕ). P n r.before r.after x) (at_next i k) r.does }

-- a grave among all, by the number of its server
sweep_has : (i : ℕ) (sweeps : List Sweep) (y : Grave) → Contains (sweep_graves i sweeps) y
    → (k : ℕ) × (x : Sweep) × (slice_get sweeps k ≡ Some x) × Contains (swept_graves (server_no (i + k)) x.swept x.links) y
sweep_has i [] y c = absurd (none_in y c)
sweep_has i (x ∷ sweeps) y c = ⊎_elim
    (λ (h : Contains (swept_graves (server_no i) x.swept x.links) y). (0, x, refl, subst (λ (n : ℕ). Contains (swept_graves (server_no n) x.swept x.links) y) (at_zero i) h))
    (λ (h : Contains (sweep_graves (i + 1) sweeps) y).
    let r = sweep_has (i + 1) sweeps y h in
    (suc r.0, r.1, r.2, subst (λ (n : ℕ). Contains (swept_graves (server_no n) r.1.swept r.1.links) y) (at_next i r.0) r.3))
    (Contains-append_cases (swept_graves (server_no i) x.swept x.links) (sweep_graves (i + 1) sweeps) y c)

-- each link that was buried is that of a connection which rested at its server's seat, as it rested
pub swept_rested : (P : ℕ → History → History → Sweep → Type 0) (old new : List History) (sweeps : List Sweep) → ((k : ℕ) (f h : History) (x : Sweep) → P k f h x → CaredAt f h x) → EachSweep P 0 old new sweeps
    → AreAlone old → (server : ServerNo) (id : ConnId) (l : LinkState) → Contains (sweep_graves 0 sweeps) (grave (OfConn server id) l) → IsAtRest old server id (what_of_link l)
swept_rested P old new sweeps cared each alone server id l c =
    let h = sweep_has 0 sweeps (grave (OfConn server id) l) c in
    let x = h.1 in
    let b = seat_of P 0 old new sweeps h.0 x each h.2 in
    ⊎_elim
    (λ (q : (b.after ≡ b.before) × (x ≡ no_sweep)).
    absurd (none_in (grave (OfConn server id) l) (subst (λ (z : Sweep). Contains (swept_graves (server_no (0 + h.0)) z.swept z.links) (grave (OfConn server id) l)) q.1 h.3)))
    (λ (s : IsSwept b.before b.after x).
    let one = alone h.0 b.before b.at_old in
    let o = one_swept b.after (server_no (0 + h.0)) server b.before.about.thread x.swept x.links id l s.links h.3 in
    let no : server.0 ≡ h.0 = ap (λ (n : ServerNo). n.0) o.0 ∙ from_zero h.0 in
    let r = rested_before b.before b.after x.added x.swept s.makes one s.marks id l o.1 in
    record { seat = b.before; at = ap (slice_get old) no ∙ b.at_old; place = r.place; rests = r.rests; beside = r.beside })
    (cared (0 + h.0) b.before b.after x b.does)
