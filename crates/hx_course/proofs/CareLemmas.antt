-- What the caretaker closes at the seats: each link that rested so is buried as it rested, and every other is where it was.
use Rattle.std.proofs.Common.{◌≡◌, ◌⊎◌, ⊎_elim, inl, inr, ℕ, zero, suc, ◌+◌, Bool, true, false, cond, List, [], ◌∷◌, ◌++◌, refl, sym, ap, ◌∙◌, subst, arith, length, Option, Some, IsSome}
use Rattle.std.specs.Prelude.{IfSome, Contains, slice_get, ⊤}
use Rattle.std.proofs.lemmas.Grind.{flat_map-append}
use Rattle.std.proofs.lemmas.List.Elements.{Contains-append_left, Contains-append_right, Contains-append_cases, Contains-push}
use mathlib.Core.Logic.{dite}
use native.Mathlib.Decide.{ℕ_discrete}
use Rattle.hx_base.specs.declared.numbers.ConnId.{ConnId}
use Rattle.hx_base.specs.declared.numbers.Millis.{Millis}
use Rattle.hx_base.specs.declared.numbers.PlaceNo.{PlaceNo}
use Rattle.hx_base.specs.declared.numbers.ServerNo.{ServerNo}
use Rattle.hx_base.specs.declared.numbers.SessionNo.{SessionNo}
use Rattle.hx_base.specs.declared.numbers.ThreadNo.{ThreadNo}
use Rattle.hx_base.specs.declared.order.Order.{Order}
use Rattle.hx_base.specs.declared.order.Order.TheVariants.{Drain, Ready}
use Rattle.hx_base.specs.declared.what.What.{What}
use Rattle.hx_conn.specs.WhatTold.{what_of_link}
use Rattle.hx_link.specs.Nets.{TellsDial}
use Rattle.hx_link.specs.Told.{LinkState}
use Rattle.hx_pool.specs.declared.entries.Entry.{Entry}
use Rattle.hx_pool.specs.declared.entries.Entry.TheVariants.{Open, Park, Take, Free, Close, Look, Up, Down, Count, Gate, SetGate, Round}
use Rattle.hx_pool.specs.declared.entries.Note.{Note}
use Rattle.hx_pool.specs.Causes.{caretaker}
use Rattle.hx_pool.specs.Purge.{round_at, round_raised}
use Rattle.hx_pool.specs.Takeover.{counted}
use Rattle.hx_pool.specs.Taking.{taken}
use Rattle.hx_pool.specs.Table.{Conn, put, Table, Unopened, HeldBy, IdleAt, Closed, Needs, after_entry, after, empty_table, face_of}
use Rattle.hx_pool.specs.History.{is_mark, plain, marks_of, table_from, table_after, what_of, EachStep, MeetsNeeds, IsLegal}
use Rattle.hx_pool.specs.SeatView.{About, History, Makes}
use Rattle.hx_pool.proofs.Histories.{table_from-append, EachStep-first, EachStep-second, marks_of-append}
use Rattle.hx_pool.proofs.Tables.{put_same, put_other, Sound, sound_at, sound_after, sound_along, closed_along}
use Rattle.hx_base.specs.declared.what.LinkTold.{LinkTold}
use Rattle.hx_record.specs.Covers.{CoversConn}
use Rattle.hx_record.specs.declared.served.Told.{Told}
use Rattle.hx_connecting.specs.Sessions.{SessionNow}
use Rattle.hx_caretaker.specs.Caring.{EachSweep, all_links}
use Rattle.hx_caretaker.specs.Orders.{Obeys, OrdersAt}
use Rattle.hx_caretaker.specs.Rounds.{PurgesSince, Ticks, TicksAt}
use Rattle.hx_caretaker.specs.Sweeps.{Swept, Sweep, swept_marks, sweep_marks, ClosesThem, IsItsLink, AreTheirLinks, no_sweep}
use Rattle.hx_course.specs.Calls.{AreAlone}
use Rattle.hx_course.specs.Conns.{CoversSome, IsOver, KeepsConns}
use Rattle.hx_course.specs.Owners.{AreInOrder}
use Rattle.hx_course.proofs.GoingLemmas.{server_is}
use Rattle.hx_course.specs.Graves.{client_of, clients_of, TellsOwner, Grave, OfClient, OfConn, grave, links_of}
use Rattle.hx_course.specs.Places.{IsAtRest, IsInGrave}
use Rattle.hx_course.specs.Sweeping.{server_no, swept_graves, sweep_graves}
use Rattle.hx_course.proofs.ConnLines.{is_some}
use Rattle.hx_course.proofs.Numbers.{some_is}
use Rattle.hx_course.proofs.StepLemmas.{links_both}
use Rattle.hx_course.proofs.TableLemmas.{none_in, one_in, seen_alone, table_alone, legal_alone, mark_note, closed_by, unopened_before, Spares, AllSpare, spared}

-- ---- marks of a sweep

-- nothing is parked
abbrev pub NoPark : Entry → Type 0
NoPark (Park t n id place uses) = ⊥
NoPark _ = ⊤

abbrev pub NoParks : List Entry → Type 0
NoParks [] = ⊤
NoParks (e ∷ es) = NoPark e × NoParks es

-- the marks are those of these connections behind marks of no connection
pub record HasSweepMarks (t : ThreadNo) (es : List Note) (swept : List Swept) : Type 0 where
  pub lead : List Entry
  pub spares : (i : ℕ) → AllSpare i lead
  pub parks : NoParks lead
  pub marks : marks_of es ≡ lead ++ sweep_marks t swept

none_marks : (t : ThreadNo) (es : List Note) (swept : List Swept) → es ≡ [] → swept ≡ [] → HasSweepMarks t es swept
none_marks t es swept e f = record {
  lead = [];
  spares = λ i. tt;
  parks = tt;
  marks = ap marks_of e ∙ sym (ap (sweep_marks t) f);
}

closes_marks : (h : History) (es : List Note) (swept : List Swept) → ClosesThem h es swept → HasSweepMarks h.about.thread es swept
closes_marks h es swept c = record { lead = []; spares = λ i. tt; parks = tt; marks = c.marks }

-- behind an entry of no connection
behind_marks : (t : ThreadNo) (x : Note) (es : List Note) (swept : List Swept) → ((i : ℕ) → Spares i x.entry) → NoPark x.entry → HasSweepMarks t es swept → HasSweepMarks t (x ∷ es) swept
behind_marks t x es swept spare park h = by_mark (is_mark x.entry) refl
  where
    by_mark : (b : Bool) → is_mark x.entry ≡ b → HasSweepMarks t (x ∷ es) swept
    by_mark true e = record {
      lead = x.entry ∷ h.lead;
      spares = λ i. (spare i, h.spares i);
      parks = (park, h.parks);
      marks = ap (λ (b : Bool). cond b (x.entry ∷ marks_of es) (marks_of es)) e ∙ ap (λ l. x.entry ∷ l) h.marks;
    }
    by_mark false e = record {
      lead = h.lead;
      spares = h.spares;
      parks = h.parks;
      marks = ap (λ (b : Bool). cond b (x.entry ∷ marks_of es) (marks_of es)) e ∙ h.marks;
    }

since_marks : (h : History) (was is : ℕ) (es : List Note) (swept : List Swept) → PurgesSince h was is es swept → HasSweepMarks h.about.thread es swept
since_marks h was is es swept (inl (low, none, empty)) = none_marks h.about.thread es swept none empty
since_marks h was is es swept (inr (high, p)) =
    subst (λ l. HasSweepMarks h.about.thread l swept) (sym p.counts)
    (behind_marks h.about.thread (counted h.about.thread p.c) p.more swept (λ i. tt) tt (closes_marks h p.more swept p.closes))

ticks_marks : (now : Millis) (h : History) (es : List Note) (swept : List Swept) → Ticks now h es swept → HasSweepMarks h.about.thread es swept
ticks_marks now h es swept (inl (none, e, f)) = none_marks h.about.thread es swept e f
ticks_marks now h es swept (inr (some, r)) =
    subst (λ l. HasSweepMarks h.about.thread l swept) (sym r.raises)
    (behind_marks h.about.thread (round_raised h.about now r.was) r.more swept (λ i. tt) tt (since_marks h r.was (round_at h.about now) r.more swept r.purges))

obeys_marks : (what : Order) (h : History) (es : List Note) (swept : List Swept) → Obeys what h es swept → HasSweepMarks h.about.thread es swept
obeys_marks (Drain server) h es swept d =
    subst (λ l. HasSweepMarks h.about.thread l swept) (sym d.sets)
    (behind_marks h.about.thread (plain (SetGate h.about.thread true)) d.more swept (λ i. tt) tt (closes_marks h d.more swept d.closes))
obeys_marks (Ready server) h es swept d =
    subst (λ l. HasSweepMarks h.about.thread l swept) (sym d.0)
    (behind_marks h.about.thread (plain (SetGate h.about.thread false)) [] swept (λ i. tt) tt (none_marks h.about.thread [] swept refl d.1))

-- at one seat: nothing was done, or a sweep with such marks was made
pub record IsSwept (old new : History) (x : Sweep) : Type 0 where
  pub makes : Makes old new x.added
  pub marks : HasSweepMarks old.about.thread x.added x.swept
  pub links : AreTheirLinks new x.swept x.links

abbrev pub CaredAt : History → History → Sweep → Type 0
CaredAt old new x = ((new ≡ old) × (x ≡ no_sweep)) ⊎ IsSwept old new x

pub ticks_cared : (now : Millis) (i : ℕ) (old new : History) (x : Sweep) → TicksAt now i old new x → CaredAt old new x
ticks_cared now i old new x s = inr (record { makes = s.makes; marks = ticks_marks now old x.added x.swept s.does; links = s.links })

pub orders_cared : (what : Order) (i : ℕ) (old new : History) (x : Sweep) → OrdersAt what i old new x → CaredAt old new x
orders_cared what i old new x (inl (is, s)) = inr (record { makes = s.makes; marks = obeys_marks what old x.added x.swept s.does; links = s.links })
orders_cared what i old new x (inr (other, same, none)) = inl (same, none)

-- ---- what the caretaker took it closes

-- the caretaker of the thread has the connection, or it is closed
abbrev IsTaken : Table → ThreadNo → ConnId → Type 0
IsTaken T t id = (T.conns id.0 ≡ HeldBy t caretaker) ⊎ (T.conns id.0 ≡ Closed)

taken_same : (T S : Table) (t : ThreadNo) (id : ConnId) → S.conns id.0 ≡ T.conns id.0 → IsTaken T t id → IsTaken S t id
taken_same T S t id e (inl h) = inl (e ∙ h)
taken_same T S t id e (inr c) = inr (e ∙ c)

taken_entry : (T : Table) (w : Option What) (e : Entry) (t : ThreadNo) (id : ConnId) → Sound T → Needs T e → IsTaken T t id → IsTaken (after_entry T w e) t id
taken_entry T w (Open u n i) t id s need k = taken_same T (after_entry T w (Open u n i)) t id (put_other T.conns i.0 (HeldBy u n) id.0 (λ e. opened k (s.fresh id.0 (omega (arith, need.1))))) k
  where
    opened : IsTaken T t id → T.conns id.0 ≡ Unopened → ⊥
    opened (inl h) none = let e = sym h ∙ none in cc
    opened (inr c) none = let e = sym c ∙ none in cc
taken_entry T w (Park u n i place uses) t id s need k = taken_same T (after_entry T w (Park u n i place uses)) t id (put_other T.conns i.0 (IdleAt place) id.0 (λ e. parked k (ap T.conns e ∙ need.held))) k
  where
    parked : IsTaken T t id → T.conns id.0 ≡ HeldBy u n → ⊥
    parked (inl h) by = let e : HeldBy t caretaker ≡ HeldBy u n = sym h ∙ by in let is : caretaker ≡ n = cc in need.session (ap (λ (m : SessionNo). m.0) (sym is))
    parked (inr c) by = let e = sym c ∙ by in cc
taken_entry T w (Take u n first place i uses) t id s need k =
    taken_same T (after_entry T w (Take u n first place i uses)) t id (put_other T.conns i.0 (HeldBy u n) id.0 (λ e. idle k (ap T.conns e ∙ (s.rests place (face_of i uses) need.0 need.1).0))) k
  where
    idle : IsTaken T t id → T.conns id.0 ≡ IdleAt place → ⊥
    idle (inl h) at = let e = sym h ∙ at in cc
    idle (inr c) at = let e = sym c ∙ at in cc
taken_entry T w (Close u n i) t id s need k = dite (ℕ_discrete i.0 id.0)
    (λ e. inr (put_same T.conns i.0 Closed id.0 (sym e)))
    (λ ne. taken_same T (after_entry T w (Close u n i)) t id (put_other T.conns i.0 Closed id.0 (λ e. ne (sym e))) k)
taken_entry T w (Free u place) t id s need k = k
taken_entry T w (Look u place found) t id s need k = k
taken_entry T w (Up u old) t id s need k = k
taken_entry T w (Down u old) t id s need k = k
taken_entry T w (Count u c) t id s need k = k
taken_entry T w (Gate u draining) t id s need k = k
taken_entry T w (SetGate u draining) t id s need k = k
taken_entry T w (Round u r old) t id s need k = k

taken_along : (T : Table) (xs : List Note) (t : ThreadNo) (id : ConnId) → Sound T → EachStep MeetsNeeds T xs → IsTaken T t id → IsTaken (table_from T xs) t id
taken_along T [] t id s l k = k
taken_along T (x ∷ xs) t id s l k = taken_along (after T x) xs t id (sound_after T x s l.0) l.1 (taken_entry T x.what x.entry t id s l.0 k)

not_idle : (T : Table) (t : ThreadNo) (id : ConnId) (place : PlaceNo) → IsTaken T t id → T.conns id.0 ≡ IdleAt place → ⊥
not_idle T t id place (inl h) at = let e = sym h ∙ at in cc
not_idle T t id place (inr c) at = let e = sym c ∙ at in cc

-- ---- what stands beside a connection

what_entry : (i : ℕ) (T : Table) (w : Option What) (e : Entry) (more : List Entry) → NoParks (cond (is_mark e) (e ∷ more) more) → ((after_entry T w e).whats i ≡ T.whats i) × NoParks more
what_entry i T w (Open t n id) more a = (refl, a.1)
what_entry i T w (Park t n id place uses) more a = absurd a.0
what_entry i T w (Take t n first place id uses) more a = (refl, a.1)
what_entry i T w (Close t n id) more a = (refl, a.1)
what_entry i T w (Free t place) more a = (refl, a)
what_entry i T w (Look t place found) more a = (refl, a)
what_entry i T w (Up t old) more a = (refl, a)
what_entry i T w (Down t old) more a = (refl, a)
what_entry i T w (Count t c) more a = (refl, a)
what_entry i T w (Gate t draining) more a = (refl, a)
what_entry i T w (SetGate t draining) more a = (refl, a.1)
what_entry i T w (Round t k old) more a = (refl, rest (is_mark (Round t k old)) a)
  where
    rest : (b : Bool) → NoParks (cond b (Round t k old ∷ more) more) → NoParks more
    rest true p = p.1
    rest false p = p

pub what_along : (i : ℕ) (T : Table) (es : List Note) → NoParks (marks_of es) → (table_from T es).whats i ≡ T.whats i
what_along i T [] a = refl
what_along i T (x ∷ xs) a = let r = what_entry i T x.what x.entry (marks_of xs) a in what_along i (after T x) xs r.1 ∙ r.0

parks_first : (xs ys : List Entry) → NoParks (xs ++ ys) → NoParks xs
parks_first [] ys a = tt
parks_first (x ∷ xs) ys a = (a.0, parks_first xs ys a.1)

pub parks_both : (xs ys : List Entry) → NoParks xs → NoParks ys → NoParks (xs ++ ys)
parks_both [] ys a b = b
parks_both (x ∷ xs) ys a b = (a.0, parks_both xs ys a.1 b)

pub sweep_parks : (t : ThreadNo) (swept : List Swept) → NoParks (sweep_marks t swept)
sweep_parks t [] = tt
sweep_parks t (x ∷ swept) = (tt, (tt, sweep_parks t swept))

-- a list in two parts is cut at z in the first or in the second
cut_in : {A : Type 0} (xs ys before behind : List A) (z : A) → xs ++ ys ≡ before ++ z ∷ behind
    → ((b : List A) × (xs ≡ before ++ z ∷ b)) ⊎ ((b : List A) × (before ≡ xs ++ b) × (ys ≡ b ++ z ∷ behind))
cut_in [] ys before behind z e = inr (before, refl, e)
cut_in (x ∷ xs) ys [] behind z e = inl (xs, cc)
cut_in (x ∷ xs) ys (y ∷ before) behind z e =
    let head : x ≡ y = cc in
    let tail : xs ++ ys ≡ before ++ z ∷ behind = cc in
    let r = cut_in xs ys before behind z tail in
    ⊎_elim (λ (k : (b : _) × (xs ≡ before ++ z ∷ b)). inl (k.0, ap (λ (u : _). u ∷ xs) head ∙ ap (λ l. y ∷ l) k.1))
    (λ (k : (b : _) × (before ≡ xs ++ b) × (ys ≡ b ++ z ∷ behind)). inr (k.0, ap (λ (u : _). u ∷ before) (sym head) ∙ ap (λ l. x ∷ l) k.1, k.2)) r

-- ---- a connection that rests

-- the link of what was closed tells what stood beside the connection as it rested
its_what : (old new : History) (es : List Note) (swept : List Swept) (m : Makes old new es) → old.about.threads ≡ 1 → HasSweepMarks old.about.thread es swept → (x : Swept) (l : LinkState) → IsItsLink new x l
    → (place : PlaceNo) → (table_after old.seen).conns x.face.id.0 ≡ IdleAt place → (v : What) → what_of old.seen x.face.id.0 ≡ Some v → v ≡ what_of_link l
its_what old new es swept m one marks x l its place idle v beside =
    let k = its.rested in
    let t = new.about.thread in
    let id = x.face.id in
    let z : Note = taken t caretaker false x.place x.face in
    let e : old.seen ++ es ≡ k.before ++ z ∷ k.behind = sym (seen_alone old new es m one) ∙ k.parts in
    let parks : NoParks (marks_of es) = subst NoParks (sym marks.marks) (parks_both marks.lead (sweep_marks old.about.thread swept) marks.parks (sweep_parks old.about.thread swept)) in
    let S : Table = table_after k.before in
    ⊎_elim
    (λ (c : (b : List Note) × (old.seen ≡ k.before ++ z ∷ b)).
    let legal : EachStep MeetsNeeds empty_table (k.before ++ z ∷ c.0) = subst IsLegal c.1 m.was.legal in
    let steps : EachStep MeetsNeeds S (z ∷ c.0) = EachStep-second MeetsNeeds empty_table k.before (z ∷ c.0) legal in
    let sound : Sound S = sound_at k.before (EachStep-first MeetsNeeds empty_table k.before (z ∷ c.0) legal) in
    let took : IsTaken (after S z) t id = inl (put_same S.conns id.0 (HeldBy t caretaker) id.0 refl) in
    let is : table_after old.seen ≡ table_from (after S z) c.0 = ap table_after c.1 ∙ table_from-append empty_table k.before (z ∷ c.0) in
    let stays : IsTaken (table_after old.seen) t id = subst (λ (T : Table). IsTaken T t id) (sym is) (taken_along (after S z) c.0 t id (sound_after S z sound steps.0) steps.1 took) in
    absurd (not_idle (table_after old.seen) t id place stays idle))
    (λ (c : (b : List Note) × (k.before ≡ old.seen ++ b) × (es ≡ b ++ z ∷ k.behind)).
    let cut : marks_of es ≡ marks_of c.0 ++ marks_of (z ∷ k.behind) = ap marks_of c.2 ∙ marks_of-append c.0 (z ∷ k.behind) in
    let none : NoParks (marks_of c.0) = parks_first (marks_of c.0) (marks_of (z ∷ k.behind)) (subst NoParks cut parks) in
    let same : what_of k.before id.0 ≡ what_of old.seen id.0 =
    ap (λ (H : List Note). what_of H id.0) c.1 ∙ (ap (λ (T : Table). T.whats id.0) (table_from-append empty_table old.seen c.0) ∙ what_along id.0 (table_after old.seen) c.0 none) in
    let both : Some v ≡ Some (what_of_link l) = sym beside ∙ (sym same ∙ k.what) in
    some_is v (what_of_link l) both)
    (cut_in old.seen es k.before k.behind z e)

id_is : (a b : ConnId) → a.0 ≡ b.0 → a ≡ b
id_is a b e = ap (λ (k : ℕ). let r : ConnId = record { 0 = k } in r) e

-- a connection is among those that were closed, or their marks spare it
find_swept : (new : History) (server : ServerNo) (t : ThreadNo) (swept : List Swept) (links : List LinkState) (id : ConnId) → AreTheirLinks new swept links
    → ((x : Swept) × (l : LinkState) × IsItsLink new x l × (x.face.id ≡ id) × Contains (swept_graves server swept links) (grave (OfConn server id) l)) ⊎ AllSpare id.0 (sweep_marks t swept)
find_swept new server t [] [] id a = inr tt
find_swept new server t [] (l ∷ links) id a = absurd a
find_swept new server t (x ∷ swept) [] id a = absurd a
find_swept new server t (x ∷ swept) (l ∷ links) id a = dite (ℕ_discrete x.face.id.0 id.0)
    (λ (e : x.face.id.0 ≡ id.0).
    let is = id_is x.face.id id e in
    let rest = swept_graves server swept links in
    let here : Contains (grave (OfConn server x.face.id) l ∷ rest) (grave (OfConn server x.face.id) l) =
    Contains-append_left (grave (OfConn server x.face.id) l ∷ []) rest (grave (OfConn server x.face.id) l) (Contains-push [] (grave (OfConn server x.face.id) l)) in
    inl (x, l, a.0, is, subst (λ (i : ConnId). Contains (grave (OfConn server x.face.id) l ∷ rest) (grave (OfConn server i) l)) is here))
    (λ ne.
    let head = grave (OfConn server x.face.id) l in
    ⊎_elim
    (λ (f : (y : Swept) × (k : LinkState) × IsItsLink new y k × (y.face.id ≡ id) × Contains (swept_graves server swept links) (grave (OfConn server id) k)).
    inl (f.0, f.1, f.2, f.3, Contains-append_right (head ∷ []) (swept_graves server swept links) (grave (OfConn server id) f.1) f.4))
    (λ (spare : AllSpare id.0 (sweep_marks t swept)). inr (ne, (ne, spare)))
    (find_swept new server t swept links id a.1))

spare_lead : (i : ℕ) (xs ys : List Entry) → AllSpare i xs → AllSpare i ys → AllSpare i (xs ++ ys)
spare_lead i [] ys a b = b
spare_lead i (x ∷ xs) ys a b = (a.0, spare_lead i xs ys a.1 b)

-- behind the call it rests still, or its link was buried as it rested
Rested : History → ServerNo → Sweep → ConnId → PlaceNo → What → Type 0
Rested new server x id place v =
    (((table_after new.seen).conns id.0 ≡ IdleAt place) × (what_of new.seen id.0 ≡ Some v))
    ⊎ ((l : LinkState) × Contains (swept_graves server x.swept x.links) (grave (OfConn server id) l) × (v ≡ what_of_link l))

rest_cared : (old new : History) (server : ServerNo) (x : Sweep) (id : ConnId) (place : PlaceNo) (v : What) → old.about.threads ≡ 1 → CaredAt old new x → (table_after old.seen).conns id.0 ≡ IdleAt place
    → what_of old.seen id.0 ≡ Some v → Rested new server x id place v
unfolding Rested
rest_cared old new server x id place v one (inl (same, none)) idle beside =
    inl (ap (λ (h : History). (table_after h.seen).conns id.0) same ∙ idle, ap (λ (h : History). what_of h.seen id.0) same ∙ beside)
rest_cared old new server x id place v one (inr s) idle beside = ⊎_elim
    (λ (f : (y : Swept) × (l : LinkState) × IsItsLink new y l × (y.face.id ≡ id) × Contains (swept_graves server x.swept x.links) (grave (OfConn server id) l)).
    let e : f.0.face.id.0 ≡ id.0 = ap (λ (i : ConnId). i.0) f.3 in
    inr (f.1, f.4, its_what old new x.added x.swept s.makes one s.marks f.0 f.1 f.2 place (ap (table_after old.seen).conns e ∙ idle) v (ap (what_of old.seen) e ∙ beside)))
    (λ (spare : AllSpare id.0 (sweep_marks old.about.thread x.swept)).
    let table = table_alone old new x.added s.makes one in
    let stays = spared id.0 (table_after old.seen) x.added (subst (AllSpare id.0) (sym s.marks.marks) (spare_lead id.0 s.marks.lead (sweep_marks old.about.thread x.swept) (s.marks.spares id.0) spare)) in
    inl (ap (λ (T : Table). T.conns id.0) table ∙ (stays.conn ∙ idle), ap (λ (T : Table). T.whats id.0) table ∙ (stays.what ∙ beside)))
    (find_swept new server old.about.thread x.swept x.links id s.links)

-- ---- at all seats

from_zero : (i : ℕ) → 0 + i ≡ i
from_zero i = omega arith

at_zero : (i : ℕ) → i ≡ i + 0
at_zero i = omega arith

at_next : (i k : ℕ) → (i + 1) + k ≡ i + suc k
at_next i k = omega arith

-- a seat after the call, and its sweep
record SweptAt (P : ℕ → History → History → Sweep → Type 0) (i : ℕ) (new : List History) (sweeps : List Sweep) (k : ℕ) (g : History) : Type 0 where
  seat : History
  sweep : Sweep
  at : slice_get new k ≡ Some seat
  its : slice_get sweeps k ≡ Some sweep
  does : P (i + k) g seat sweep

sweep_at : (P : ℕ → History → History → Sweep → Type 0) (i : ℕ) (old new : List History) (sweeps : List Sweep) (k : ℕ) (g : History) → EachSweep P i old new sweeps → slice_get old k ≡ Some g
    → SweptAt P i new sweeps k g
sweep_at P i [] [] [] k g a e = cc
sweep_at P i [] [] (x ∷ sweeps) k g a e = absurd a
sweep_at P i [] (h ∷ new) sweeps k g a e = absurd a
sweep_at P i (f ∷ old) [] sweeps k g a e = absurd a
sweep_at P i (f ∷ old) (h ∷ new) [] k g a e = absurd a
sweep_at P i (f ∷ old) (h ∷ new) (x ∷ sweeps) zero g a e =
    let is : f ≡ g = cc in
    record { seat = h; sweep = x; at = refl; its = refl; does = subst (λ (n : ℕ). P n g h x) (at_zero i) (subst (λ (z : History). P i z h x) is a.0) }
sweep_at P i (f ∷ old) (h ∷ new) (x ∷ sweeps) (suc k) g a e =
    let r = sweep_at P (i + 1) old new sweeps k g a.1 e in
    record { seat = r.seat; sweep = r.sweep; at = r.at; its = r.its; does = subst (λ (n : ℕ). P n g r.seat r.sweep) (at_next i k) r.does }

-- its graves are among those of all
sweep_in : (i : ℕ) (sweeps : List Sweep) (k : ℕ) (x : Sweep) (y : Grave) → slice_get sweeps k ≡ Some x → Contains (swept_graves (server_no (i + k)) x.swept x.links) y → Contains (sweep_graves i sweeps) y
sweep_in i [] k x y e c = cc
sweep_in i (z ∷ sweeps) zero x y e c =
    let is : x ≡ z = cc in
    Contains-append_left (swept_graves (server_no i) z.swept z.links) (sweep_graves (i + 1) sweeps) y
    (subst (λ (n : ℕ). Contains (swept_graves (server_no n) z.swept z.links) y) (sym (at_zero i)) (subst (λ (s : Sweep). Contains (swept_graves (server_no (i + 0)) s.swept s.links) y) is c))
sweep_in i (z ∷ sweeps) (suc k) x y e c =
    Contains-append_right (swept_graves (server_no i) z.swept z.links) (sweep_graves (i + 1) sweeps) y
    (sweep_in (i + 1) sweeps k x y e (subst (λ (n : ℕ). Contains (swept_graves (server_no n) x.swept x.links) y) (sym (at_next i k)) c))

-- the seats stay those of one thread
about_cared : (old new : History) (x : Sweep) → CaredAt old new x → new.about ≡ old.about
about_cared old new x (inl (same, none)) = ap (λ (h : History). h.about) same
about_cared old new x (inr s) = s.makes.about

pub alone_cared : (P : ℕ → History → History → Sweep → Type 0) (i : ℕ) (old new : List History) (sweeps : List Sweep) → ((k : ℕ) (f h : History) (x : Sweep) → P k f h x → CaredAt f h x)
    → EachSweep P i old new sweeps → AreAlone old → AreAlone new
alone_cared P i [] [] [] cared a alone k h e = cc
alone_cared P i [] [] (x ∷ sweeps) cared a alone k h e = absurd a
alone_cared P i [] (f ∷ new) sweeps cared a alone k h e = absurd a
alone_cared P i (f ∷ old) [] sweeps cared a alone k h e = absurd a
alone_cared P i (f ∷ old) (g ∷ new) [] cared a alone k h e = absurd a
alone_cared P i (f ∷ old) (g ∷ new) (x ∷ sweeps) cared a alone zero h e =
    let is : g ≡ h = cc in
    ap (λ (z : History). z.about.threads) (sym is) ∙ (ap (λ (b : About). b.threads) (about_cared f g x (cared i f g x a.0)) ∙ alone 0 f refl)
alone_cared P i (f ∷ old) (g ∷ new) (x ∷ sweeps) cared a alone (suc k) h e = alone_cared P (i + 1) old new sweeps cared a.1 (λ j z q. alone (suc j) z q) k h e

-- their links are those that are buried
swept_links : (new : History) (server : ServerNo) (swept : List Swept) (links : List LinkState) → AreTheirLinks new swept links → links_of (swept_graves server swept links) ≡ links
swept_links new server [] [] a = refl
swept_links new server [] (l ∷ links) a = absurd a
swept_links new server (x ∷ swept) [] a = absurd a
swept_links new server (x ∷ swept) (l ∷ links) a = ap (λ ls. l ∷ ls) (swept_links new server swept links a.1)

cared_links : (old new : History) (server : ServerNo) (x : Sweep) → CaredAt old new x → links_of (swept_graves server x.swept x.links) ≡ x.links
cared_links old new server x (inl (same, none)) = ap (λ (y : Sweep). links_of (swept_graves server y.swept y.links)) none ∙ sym (ap (λ (y : Sweep). y.links) none)
cared_links old new server x (inr s) = swept_links new server x.swept x.links s.links

pub all_cared_links : (P : ℕ → History → History → Sweep → Type 0) (i : ℕ) (old new : List History) (sweeps : List Sweep) → ((k : ℕ) (f h : History) (x : Sweep) → P k f h x → CaredAt f h x)
    → EachSweep P i old new sweeps → links_of (sweep_graves i sweeps) ≡ all_links sweeps
all_cared_links P i [] [] [] cared a = refl
all_cared_links P i [] [] (x ∷ sweeps) cared a = absurd a
all_cared_links P i [] (f ∷ new) sweeps cared a = absurd a
all_cared_links P i (f ∷ old) [] sweeps cared a = absurd a
all_cared_links P i (f ∷ old) (g ∷ new) [] cared a = absurd a
all_cared_links P i (f ∷ old) (g ∷ new) (x ∷ sweeps) cared a =
    links_both (swept_graves (server_no i) x.swept x.links) (sweep_graves (i + 1) sweeps)
    ∙ (ap (λ ls. ls ++ links_of (sweep_graves (i + 1) sweeps)) (cared_links f g (server_no i) x (cared i f g x a.0))
    ∙ ap (λ ls. x.links ++ ls) (all_cared_links P (i + 1) old new sweeps cared a.1))

-- no client's link is among them
swept_no_client : (server : ServerNo) (swept : List Swept) (links : List LinkState) (u : ThreadNo) (n : SessionNo) (l : LinkState) → Contains (swept_graves server swept links) (grave (OfClient u n) l) → ⊥
swept_no_client server [] [] u n l c = none_in (grave (OfClient u n) l) c
swept_no_client server [] (k ∷ links) u n l c = none_in (grave (OfClient u n) l) c
swept_no_client server (x ∷ swept) [] u n l c = none_in (grave (OfClient u n) l) c
swept_no_client server (x ∷ swept) (k ∷ links) u n l c = ⊎_elim
    (λ (h : Contains (grave (OfConn server x.face.id) k ∷ []) (grave (OfClient u n) l)).
    let e : OfConn server x.face.id ≡ OfClient u n = ap (λ (g : Grave). g.owner) (one_in (grave (OfConn server x.face.id) k) (grave (OfClient u n) l) h) in cc)
    (λ (h : Contains (swept_graves server swept links) (grave (OfClient u n) l)). swept_no_client server swept links u n l h)
    (Contains-append_cases (grave (OfConn server x.face.id) k ∷ []) (swept_graves server swept links) (grave (OfClient u n) l) c)

pub sweep_no_client : (i : ℕ) (sweeps : List Sweep) (u : ThreadNo) (n : SessionNo) (l : LinkState) → Contains (sweep_graves i sweeps) (grave (OfClient u n) l) → ⊥
sweep_no_client i [] u n l c = none_in (grave (OfClient u n) l) c
sweep_no_client i (x ∷ sweeps) u n l c = ⊎_elim
    (λ (h : Contains (swept_graves (server_no i) x.swept x.links) (grave (OfClient u n) l)). swept_no_client (server_no i) x.swept x.links u n l h)
    (λ (h : Contains (sweep_graves (i + 1) sweeps) (grave (OfClient u n) l)). sweep_no_client (i + 1) sweeps u n l h)
    (Contains-append_cases (swept_graves (server_no i) x.swept x.links) (sweep_graves (i + 1) sweeps) (grave (OfClient u n) l) c)

-- a connection that rests: where it is afterwards
pub rest_on : (P : ℕ → History → History → Sweep → Type 0) (old new : List History) (sweeps : List Sweep) → ((k : ℕ) (f h : History) (x : Sweep) → P k f h x → CaredAt f h x)
    → EachSweep P 0 old new sweeps → AreAlone old → (server : ServerNo) (id : ConnId) (v : What) → IsAtRest old server id v → IsAtRest new server id v ⊎ IsInGrave (sweep_graves 0 sweeps) server id v
unfolding Rested
rest_on P old new sweeps cared each alone server id v r =
    let s = sweep_at P 0 old new sweeps server.0 r.seat each r.at in
    let no : server_no (0 + server.0) ≡ server = ap server_no (from_zero server.0) in
    ⊎_elim
    (λ (k : ((table_after s.seat.seen).conns id.0 ≡ IdleAt r.place) × (what_of s.seat.seen id.0 ≡ Some v)).
    inl (record { seat = s.seat; at = s.at; place = r.place; rests = k.0; beside = k.1 }))
    (λ (k : (l : LinkState) × Contains (swept_graves (server_no (0 + server.0)) s.sweep.swept s.sweep.links) (grave (OfConn (server_no (0 + server.0)) id) l) × (v ≡ what_of_link l)).
    let there : Contains (sweep_graves 0 sweeps) (grave (OfConn (server_no (0 + server.0)) id) k.0) = sweep_in 0 sweeps server.0 s.sweep (grave (OfConn (server_no (0 + server.0)) id) k.0) s.its k.1 in
    inr (record { link = k.0; there = subst (λ (n : ServerNo). Contains (sweep_graves 0 sweeps) (grave (OfConn n id) k.0)) no there; tells = k.2 }))
    (rest_cared r.seat s.seat (server_no (0 + server.0)) s.sweep id r.place v (alone server.0 r.seat r.at) (cared (0 + server.0) r.seat s.seat s.sweep s.does) r.rests r.beside)

-- ---- the exchanges of connections

-- a swept connection's link, and its marks
pub record IsOneSwept (new : History) (t : ThreadNo) (swept : List Swept) (id : ConnId) (l : LinkState) : Type 0 where
  pub x : Swept
  pub id_is : x.face.id ≡ id
  pub link : IsItsLink new x l
  pub takes : Contains (sweep_marks t swept) (Take t caretaker false x.place x.face.id x.face.uses)
  pub closes : Contains (sweep_marks t swept) (Close t caretaker x.face.id)

one_swept : (new : History) (server n : ServerNo) (t : ThreadNo) (swept : List Swept) (links : List LinkState) (id : ConnId) (l : LinkState) → AreTheirLinks new swept links
    → Contains (swept_graves server swept links) (grave (OfConn n id) l) → (n ≡ server) × IsOneSwept new t swept id l
one_swept new server n t [] [] id l a c = absurd (none_in (grave (OfConn n id) l) c)
one_swept new server n t [] (k ∷ links) id l a c = absurd a
one_swept new server n t (x ∷ swept) [] id l a c = absurd a
one_swept new server n t (x ∷ swept) (k ∷ links) id l a c = ⊎_elim
    (λ (h : Contains (grave (OfConn server x.face.id) k ∷ []) (grave (OfConn n id) l)).
    let e = one_in (grave (OfConn server x.face.id) k) (grave (OfConn n id) l) h in
    let o : OfConn server x.face.id ≡ OfConn n id = ap (λ (g : Grave). g.owner) e in
    let link : k ≡ l = ap (λ (g : Grave). g.link) e in
    let id_is : x.face.id ≡ id = cc in
    let n_is : n ≡ server = cc in (
      n_is,
      record {
        x = x;
        id_is = id_is;
        link = subst (λ (j : LinkState). IsItsLink new x j) link a.0;
        takes = Contains-append_left (swept_marks t x) (sweep_marks t swept) (Take t caretaker false x.place x.face.id x.face.uses)
            (Contains-append_left (Take t caretaker false x.place x.face.id x.face.uses ∷ []) (Close t caretaker x.face.id ∷ []) (Take t caretaker false x.place x.face.id x.face.uses)
            (Contains-push [] (Take t caretaker false x.place x.face.id x.face.uses)));
        closes = Contains-append_left (swept_marks t x) (sweep_marks t swept) (Close t caretaker x.face.id)
            (Contains-push (Take t caretaker false x.place x.face.id x.face.uses ∷ []) (Close t caretaker x.face.id));
      },
    ))
    (λ (h : Contains (swept_graves server swept links) (grave (OfConn n id) l)).
    let r = one_swept new server n t swept links id l a.1 h in (
      r.0,
      record {
        x = r.1.x;
        id_is = r.1.id_is;
        link = r.1.link;
        takes = Contains-append_right (swept_marks t x) (sweep_marks t swept) (Take t caretaker false r.1.x.place r.1.x.face.id r.1.x.face.uses) r.1.takes;
        closes = Contains-append_right (swept_marks t x) (sweep_marks t swept) (Close t caretaker r.1.x.face.id) r.1.closes;
      },
    ))
    (Contains-append_cases (grave (OfConn server x.face.id) k ∷ []) (swept_graves server swept links) (grave (OfConn n id) l) c)

-- without a park nothing comes to rest
idle_put : (f : ℕ → Conn) (k i : ℕ) (c : Conn) (place : PlaceNo) → (c ≡ IdleAt place → ⊥) → put f k c i ≡ IdleAt place → f i ≡ IdleAt place
idle_put f k i c place other e = dite (ℕ_discrete i k)
    (λ (is : i ≡ k). absurd (other (sym (put_same f k c i is) ∙ e)))
    (λ ne. sym (put_other f k c i ne) ∙ e)

idle_entry : (i : ℕ) (place : PlaceNo) (T : Table) (w : Option What) (e : Entry) (more : List Entry) → NoParks (cond (is_mark e) (e ∷ more) more) → (after_entry T w e).conns i ≡ IdleAt place
    → T.conns i ≡ IdleAt place
idle_entry i place T w (Open t n id) more a h = idle_put T.conns id.0 i (HeldBy t n) place (λ k. cc) h
idle_entry i place T w (Park t n id at uses) more a h = absurd a.0
idle_entry i place T w (Take t n first at id uses) more a h = idle_put T.conns id.0 i (HeldBy t n) place (λ k. cc) h
idle_entry i place T w (Close t n id) more a h = idle_put T.conns id.0 i Closed place (λ k. cc) h
idle_entry i place T w (Free t at) more a h = h
idle_entry i place T w (Look t at found) more a h = h
idle_entry i place T w (Up t old) more a h = h
idle_entry i place T w (Down t old) more a h = h
idle_entry i place T w (Count t c) more a h = h
idle_entry i place T w (Gate t draining) more a h = h
idle_entry i place T w (SetGate t draining) more a h = h
idle_entry i place T w (Round t k old) more a h = h

pub idle_before : (i : ℕ) (place : PlaceNo) (T : Table) (es : List Note) → NoParks (marks_of es) → (table_from T es).conns i ≡ IdleAt place → T.conns i ≡ IdleAt place
idle_before i place T [] a h = h
idle_before i place T (x ∷ xs) a h =
    idle_entry i place T x.what x.entry (marks_of xs) a (idle_before i place (after T x) xs (what_entry i T x.what x.entry (marks_of xs) a).1 h)

-- what was closed had rested before the call, and its link told what stood beside it
record RestedBefore (old : History) (id : ConnId) (l : LinkState) : Type 0 where
  place : PlaceNo
  rests : (table_after old.seen).conns id.0 ≡ IdleAt place
  beside : what_of old.seen id.0 ≡ Some (what_of_link l)

rested_before : (old new : History) (es : List Note) (swept : List Swept) (m : Makes old new es) → old.about.threads ≡ 1 → HasSweepMarks old.about.thread es swept → (id : ConnId) (l : LinkState)
    → IsOneSwept new old.about.thread swept id l → RestedBefore old id l
rested_before old new es swept m one marks id l o =
    let x = o.x in
    let k = o.link.rested in
    let t = new.about.thread in
    let i = x.face.id in
    let same_thread : t ≡ old.about.thread = ap (λ (b : About). b.thread) m.about in
    let z : Note = taken t caretaker false x.place x.face in
    let e : old.seen ++ es ≡ k.before ++ z ∷ k.behind = sym (seen_alone old new es m one) ∙ k.parts in
    let parks : NoParks (marks_of es) = subst NoParks (sym marks.marks) (parks_both marks.lead (sweep_marks old.about.thread swept) marks.parks (sweep_parks old.about.thread swept)) in
    let S : Table = table_after k.before in
    let T : Table = table_after old.seen in
    let legal : EachStep MeetsNeeds T es = legal_alone old new es m one in
    let sound_old : Sound T = sound_at old.seen m.was.legal in
    let whole : EachStep MeetsNeeds empty_table (k.before ++ z ∷ k.behind) = subst IsLegal k.parts m.one.legal in
    let sound : Sound S = sound_at k.before (EachStep-first MeetsNeeds empty_table k.before (z ∷ k.behind) whole) in
    let steps : EachStep MeetsNeeds S (z ∷ k.behind) = EachStep-second MeetsNeeds empty_table k.before (z ∷ k.behind) whole in
    let idle : S.conns i.0 ≡ IdleAt x.place = (sound.rests x.place (face_of i x.face.uses) steps.0.0 steps.0.1).0 in
    ⊎_elim
    (λ (c : (b : List Note) × (old.seen ≡ k.before ++ z ∷ b)).
    let legal_b : EachStep MeetsNeeds empty_table (k.before ++ z ∷ c.0) = subst IsLegal c.1 m.was.legal in
    let steps_b : EachStep MeetsNeeds S (z ∷ c.0) = EachStep-second MeetsNeeds empty_table k.before (z ∷ c.0) legal_b in
    let took : IsTaken (after S z) t i = inl (put_same S.conns i.0 (HeldBy t caretaker) i.0 refl) in
    let is : T ≡ table_from (after S z) c.0 = ap table_after c.1 ∙ table_from-append empty_table k.before (z ∷ c.0) in
    let stays : IsTaken T t i = subst (λ (R : Table). IsTaken R t i) (sym is) (taken_along (after S z) c.0 t i (sound_after S z sound steps_b.0) steps_b.1 took) in
    let take : Entry = Take old.about.thread caretaker false x.place x.face.id x.face.uses in
    let has : Contains (marks_of es) take = subst (λ (es : List Entry). Contains es take) (sym marks.marks) (Contains-append_right marks.lead (sweep_marks old.about.thread swept) take o.takes) in
    let cut = mark_note es take has in
    let R : Table = table_from T cut.0 in
    let steps_c : EachStep MeetsNeeds T (cut.0 ++ cut.1 ∷ cut.2) = subst (EachStep MeetsNeeds T) cut.3 legal in
    let first_c = EachStep-first MeetsNeeds T cut.0 (cut.1 ∷ cut.2) steps_c in
    let sound_c : Sound R = sound_along T cut.0 sound_old first_c in
    let needs : Needs R take = subst (Needs R) cut.4 (EachStep-second MeetsNeeds T cut.0 (cut.1 ∷ cut.2) steps_c).0 in
    let idle_c : R.conns i.0 ≡ IdleAt x.place = (sound_c.rests x.place (face_of i x.face.uses) needs.0 needs.1).0 in
    absurd (not_idle R t i x.place (taken_along T cut.0 t i sound_old first_c stays) idle_c))
    (λ (c : (b : List Note) × (k.before ≡ old.seen ++ b) × (es ≡ b ++ z ∷ k.behind)).
    let cut : marks_of es ≡ marks_of c.0 ++ marks_of (z ∷ k.behind) = ap marks_of c.2 ∙ marks_of-append c.0 (z ∷ k.behind) in
    let none : NoParks (marks_of c.0) = parks_first (marks_of c.0) (marks_of (z ∷ k.behind)) (subst NoParks cut parks) in
    let is : S ≡ table_from T c.0 = ap table_after c.1 ∙ table_from-append empty_table old.seen c.0 in
    let rests : T.conns i.0 ≡ IdleAt x.place = idle_before i.0 x.place T c.0 none (ap (λ (R : Table). R.conns i.0) (sym is) ∙ idle) in
    let beside : what_of old.seen i.0 ≡ Some (what_of_link l) = sym (what_along i.0 T c.0 none) ∙ (ap (λ (R : Table). R.whats i.0) (sym is) ∙ k.what) in
    record { place = x.place; rests = ap (λ (n : ConnId). T.conns n.0) (sym o.id_is) ∙ rests; beside = ap (λ (n : ConnId). what_of old.seen n.0) (sym o.id_is) ∙ beside })
    (cut_in old.seen es k.before k.behind z e)

-- and is closed
swept_closed : (old new : History) (es : List Note) (swept : List Swept) (m : Makes old new es) → old.about.threads ≡ 1 → HasSweepMarks old.about.thread es swept → (id : ConnId) (l : LinkState)
    → IsOneSwept new old.about.thread swept id l → (table_after new.seen).conns id.0 ≡ Closed
swept_closed old new es swept m one marks id l o =
    let close : Entry = Close old.about.thread caretaker o.x.face.id in
    let has : Contains (marks_of es) close = subst (λ (es : List Entry). Contains es close) (sym marks.marks) (Contains-append_right marks.lead (sweep_marks old.about.thread swept) close o.closes) in
    let closed = closed_by (table_after old.seen) es old.about.thread caretaker o.x.face.id (sound_at old.seen m.was.legal) (legal_alone old new es m one) has in
    ap (λ (n : ConnId). (table_after new.seen).conns n.0) (sym o.id_is) ∙ (ap (λ (S : Table). S.conns o.x.face.id.0) (table_alone old new es m one) ∙ closed)

-- a seat after the call, that before it, and its sweep
pub record SweptBack (P : ℕ → History → History → Sweep → Type 0) (i : ℕ) (old : List History) (k : ℕ) (h : History) : Type 0 where
  pub seat : History
  pub sweep : Sweep
  pub at : slice_get old k ≡ Some seat
  pub does : P (i + k) seat h sweep

pub sweep_back : (P : ℕ → History → History → Sweep → Type 0) (i : ℕ) (old new : List History) (sweeps : List Sweep) (k : ℕ) (h : History) → EachSweep P i old new sweeps → slice_get new k ≡ Some h
    → SweptBack P i old k h
sweep_back P i [] [] [] k h a e = cc
sweep_back P i [] [] (x ∷ sweeps) k h a e = absurd a
sweep_back P i [] (g ∷ new) sweeps k h a e = absurd a
sweep_back P i (f ∷ old) [] sweeps k h a e = absurd a
sweep_back P i (f ∷ old) (g ∷ new) [] k h a e = absurd a
sweep_back P i (f ∷ old) (g ∷ new) (x ∷ sweeps) zero h a e =
    let is : g ≡ h = cc in
    record { seat = f; sweep = x; at = refl; does = subst (λ (n : ℕ). P n f h x) (at_zero i) (subst (λ (z : History). P i f z x) is a.0) }
sweep_back P i (f ∷ old) (g ∷ new) (x ∷ sweeps) (suc k) h a e =
    let r = sweep_back P (i + 1) old new sweeps k h a.1 e in
    record { seat = r.seat; sweep = r.sweep; at = r.at; does = subst (λ (n : ℕ). P n r.seat h r.sweep) (at_next i k) r.does }

-- the seat of a sweep, before the call and after it
record SeatOf (P : ℕ → History → History → Sweep → Type 0) (i : ℕ) (old new : List History) (k : ℕ) (x : Sweep) : Type 0 where
  before : History
  after : History
  at_old : slice_get old k ≡ Some before
  at_new : slice_get new k ≡ Some after
  does : P (i + k) before after x

seat_of : (P : ℕ → History → History → Sweep → Type 0) (i : ℕ) (old new : List History) (sweeps : List Sweep) (k : ℕ) (x : Sweep) → EachSweep P i old new sweeps → slice_get sweeps k ≡ Some x
    → SeatOf P i old new k x
seat_of P i [] [] [] k x a e = cc
seat_of P i [] [] (y ∷ sweeps) k x a e = absurd a
seat_of P i [] (g ∷ new) sweeps k x a e = absurd a
seat_of P i (f ∷ old) [] sweeps k x a e = absurd a
seat_of P i (f ∷ old) (g ∷ new) [] k x a e = absurd a
seat_of P i (f ∷ old) (g ∷ new) (y ∷ sweeps) zero x a e =
    let is : y ≡ x = cc in
    record { before = f; after = g; at_old = refl; at_new = refl; does = subst (λ (n : ℕ). P n f g x) (at_zero i) (subst (λ (z : Sweep). P i f g z) is a.0) }
seat_of P i (f ∷ old) (g ∷ new) (y ∷ sweeps) (suc k) x a e =
    let r = seat_of P (i + 1) old new sweeps k x a.1 e in
    record { before = r.before; after = r.after; at_old = r.at_old; at_new = r.at_new; does = subst (λ (n : ℕ). P n r.before r.after x) (at_next i k) r.does }

-- a grave among all, by the number of its server
sweep_has : (i : ℕ) (sweeps : List Sweep) (y : Grave) → Contains (sweep_graves i sweeps) y
    → (k : ℕ) × (x : Sweep) × (slice_get sweeps k ≡ Some x) × Contains (swept_graves (server_no (i + k)) x.swept x.links) y
sweep_has i [] y c = absurd (none_in y c)
sweep_has i (x ∷ sweeps) y c = ⊎_elim
    (λ (h : Contains (swept_graves (server_no i) x.swept x.links) y). (0, x, refl, subst (λ (n : ℕ). Contains (swept_graves (server_no n) x.swept x.links) y) (at_zero i) h))
    (λ (h : Contains (sweep_graves (i + 1) sweeps) y).
    let r = sweep_has (i + 1) sweeps y h in
    (suc r.0, r.1, r.2, subst (λ (n : ℕ). Contains (swept_graves (server_no n) r.1.swept r.1.links) y) (at_next i r.0) r.3))
    (Contains-append_cases (swept_graves (server_no i) x.swept x.links) (sweep_graves (i + 1) sweeps) y c)

not_both : (T : Table) (i : ℕ) (place : PlaceNo) → T.conns i ≡ IdleAt place → T.conns i ≡ Closed → ⊥
not_both T i place a b = let e = sym a ∙ b in cc

module _ (P : ℕ → History → History → Sweep → Type 0) (cared : (k : ℕ) (f h : History) (x : Sweep) → P k f h x → CaredAt f h x) (old new : List History) (sweeps : List Sweep)
    (each : EachSweep P 0 old new sweeps) (alone : AreAlone old) (ss : List SessionNow) (records : List Told) (graves : List Grave) (keeps : KeepsConns ss old records graves) where
  -- what rests after the call rested before it
  rests_care : (server : ServerNo) (id : ConnId) (v : What) (r : IsAtRest new server id v) → IfSome v.told (λ l. CoversConn server id records (length l.sent) (length l.taken) ((table_after r.seat.seen).uses id.0))
  rests_care server id v r =
      let b = sweep_back P 0 old new sweeps server.0 r.seat each r.at in
      let g = b.seat in
      ⊎_elim
      (λ (q : (r.seat ≡ g) × (b.sweep ≡ no_sweep)).
      let was : IsAtRest old server id v = record {
        seat = g;
        at = b.at;
        place = r.place;
        rests = ap (λ (h : History). (table_after h.seen).conns id.0) (sym q.0) ∙ r.rests;
        beside = ap (λ (h : History). what_of h.seen id.0) (sym q.0) ∙ r.beside;
      } in
      subst (λ (n : ℕ). IfSome v.told (λ l. CoversConn server id records (length l.sent) (length l.taken) n)) (ap (λ (h : History). (table_after h.seen).uses id.0) (sym q.0)) (keeps.rests server id v was))
      (λ (s : IsSwept g r.seat b.sweep).
      let one = alone server.0 g b.at in
      let T = table_after g.seen in
      let table = table_alone g r.seat b.sweep.added s.makes one in
      ⊎_elim
      (λ (f : (y : Swept) × (l : LinkState) × IsItsLink r.seat y l × (y.face.id ≡ id) × Contains (swept_graves server b.sweep.swept b.sweep.links) (grave (OfConn server id) l)).
      let o = one_swept r.seat server server g.about.thread b.sweep.swept b.sweep.links id f.1 s.links f.4 in
      absurd (not_both (table_after r.seat.seen) id.0 r.place r.rests (swept_closed g r.seat b.sweep.added b.sweep.swept s.makes one s.marks id f.1 o.1)))
      (λ (spare : AllSpare id.0 (sweep_marks g.about.thread b.sweep.swept)).
      let stays = spared id.0 T b.sweep.added (subst (AllSpare id.0) (sym s.marks.marks) (spare_lead id.0 s.marks.lead (sweep_marks g.about.thread b.sweep.swept) (s.marks.spares id.0) spare)) in
      let was : IsAtRest old server id v = record {
        seat = g;
        at = b.at;
        place = r.place;
        rests = sym stays.conn ∙ (ap (λ (S : Table). S.conns id.0) (sym table) ∙ r.rests);
        beside = sym stays.what ∙ (ap (λ (S : Table). S.whats id.0) (sym table) ∙ r.beside);
      } in
      subst (λ (n : ℕ). IfSome v.told (λ l. CoversConn server id records (length l.sent) (length l.taken) n)) (sym stays.uses ∙ ap (λ (S : Table). S.uses id.0) (sym table)) (keeps.rests server id v was))
      (find_swept r.seat server g.about.thread b.sweep.swept b.sweep.links id s.links))
      (cared (0 + server.0) g r.seat b.sweep b.does)

  fresh_care : (server : ServerNo) (id : ConnId) (h : History) → slice_get new server.0 ≡ Some h → (table_after h.seen).conns id.0 ≡ Unopened → CoversConn server id records 0 0 0
  fresh_care server id h at unopened =
      let b = sweep_back P 0 old new sweeps server.0 h each at in
      ⊎_elim
      (λ (q : (h ≡ b.seat) × (b.sweep ≡ no_sweep)). keeps.fresh server id b.seat b.at (ap (λ (z : History). (table_after z.seen).conns id.0) (sym q.0) ∙ unopened))
      (λ (s : IsSwept b.seat h b.sweep).
      let table = table_alone b.seat h b.sweep.added s.makes (alone server.0 b.seat b.at) in
      keeps.fresh server id b.seat b.at (unopened_before (table_after b.seat.seen) b.sweep.added id.0 (ap (λ (S : Table). S.conns id.0) (sym table) ∙ unopened)))
      (cared (0 + server.0) b.seat h b.sweep b.does)

  over_care : (server : ServerNo) (id : ConnId) → IsOver old server id → IsOver new server id
  over_care server id o =
      let b = sweep_at P 0 old new sweeps server.0 o.seat each o.at in
      ⊎_elim
      (λ (q : (b.seat ≡ o.seat) × (b.sweep ≡ no_sweep)).
      record { seat = b.seat; at = b.at; closed = ap (λ (h : History). (table_after h.seen).conns id.0) q.0 ∙ o.closed })
      (λ (s : IsSwept o.seat b.seat b.sweep).
      let one = alone server.0 o.seat o.at in
      record {
        seat = b.seat;
        at = b.at;
        closed = ap (λ (S : Table). S.conns id.0) (table_alone o.seat b.seat b.sweep.added s.makes one)
            ∙ closed_along (table_after o.seat.seen) b.sweep.added id.0 (sound_at o.seat.seen s.makes.was.legal) (legal_alone o.seat b.seat b.sweep.added s.makes one) o.closed;
      })
      (cared (0 + server.0) o.seat b.seat b.sweep b.does)

  abbrev Gone : ServerNo → ConnId → LinkState → Type 0
  Gone server id l = IsOver new server id × (IsSome (what_of_link l).told → CoversSome server id records)

  -- what was closed had rested
  swept_gone : (server : ServerNo) (id : ConnId) (l : LinkState) → Contains (sweep_graves 0 sweeps) (grave (OfConn server id) l) → Gone server id l
  swept_gone server id l c =
      let h = sweep_has 0 sweeps (grave (OfConn server id) l) c in
      let x = h.1 in
      let b = seat_of P 0 old new sweeps h.0 x each h.2 in
      ⊎_elim
      (λ (q : (b.after ≡ b.before) × (x ≡ no_sweep)).
      absurd (none_in (grave (OfConn server id) l) (subst (λ (z : Sweep). Contains (swept_graves (server_no (0 + h.0)) z.swept z.links) (grave (OfConn server id) l)) q.1 h.3)))
      (λ (s : IsSwept b.before b.after x).
      let one = alone h.0 b.before b.at_old in
      let o = one_swept b.after (server_no (0 + h.0)) server b.before.about.thread x.swept x.links id l s.links h.3 in
      let no : server.0 ≡ h.0 = ap (λ (n : ServerNo). n.0) o.0 ∙ from_zero h.0 in
      let r = rested_before b.before b.after x.added x.swept s.makes one s.marks id l o.1 in
      let was : IsAtRest old server id (what_of_link l) = record { seat = b.before; at = ap (slice_get old) no ∙ b.at_old; place = r.place; rests = r.rests; beside = r.beside } in (
        record { seat = b.after; at = ap (slice_get new) no ∙ b.at_new; closed = swept_closed b.before b.after x.added x.swept s.makes one s.marks id l o.1 },
        λ tells.
            let m = is_some (what_of_link l).told tells in
            record {
              sent = length m.0.sent;
              took = length m.0.taken;
              count = (table_after b.before.seen).uses id.0;
              covers = subst (λ (z : Option LinkTold). IfSome z (λ k. CoversConn server id records (length k.sent) (length k.taken) ((table_after b.before.seen).uses id.0))) m.1 (keeps.rests server id (what_of_link l) was);
            },
      ))
      (cared (0 + h.0) b.before b.after x b.does)

  buried_care : (server : ServerNo) (id : ConnId) (l : LinkState) → Contains (graves ++ sweep_graves 0 sweeps) (grave (OfConn server id) l) → Gone server id l
  buried_care server id l c = ⊎_elim
      (λ (h : Contains graves (grave (OfConn server id) l)). let b = keeps.buried server id l h in (over_care server id b.0, b.1))
      (λ (h : Contains (sweep_graves 0 sweeps) (grave (OfConn server id) l)). swept_gone server id l h)
      (Contains-append_cases graves (sweep_graves 0 sweeps) (grave (OfConn server id) l) c)

  pub conns_care : KeepsConns ss new records (graves ++ sweep_graves 0 sweeps)
  conns_care = record { held = keeps.held; rests = rests_care; fresh = fresh_care; buried = buried_care }

-- ---- whose the links are

order_cared : (P : ℕ → History → History → Sweep → Type 0) (i j : ℕ) (old new : List History) (sweeps : List Sweep) → ((k : ℕ) (f h : History) (x : Sweep) → P k f h x → CaredAt f h x)
    → EachSweep P i old new sweeps → ((k : ℕ) (h : History) → slice_get old k ≡ Some h → h.about.server.0 ≡ j + k) → (k : ℕ) (h : History) → slice_get new k ≡ Some h → h.about.server.0 ≡ j + k
order_cared P i j [] [] [] cared a order k h e = cc
order_cared P i j [] [] (x ∷ sweeps) cared a order k h e = absurd a
order_cared P i j [] (f ∷ new) sweeps cared a order k h e = absurd a
order_cared P i j (f ∷ old) [] sweeps cared a order k h e = absurd a
order_cared P i j (f ∷ old) (g ∷ new) [] cared a order k h e = absurd a
order_cared P i j (f ∷ old) (g ∷ new) (x ∷ sweeps) cared a order zero h e =
    let is : g ≡ h = cc in
    ap (λ (z : History). z.about.server.0) (sym is) ∙ (ap (λ (b : About). b.server.0) (about_cared f g x (cared i f g x a.0)) ∙ order 0 f refl)
order_cared P i j (f ∷ old) (g ∷ new) (x ∷ sweeps) cared a order (suc k) h e =
    order_cared P (i + 1) (j + 1) old new sweeps cared a.1 (λ m z q. order (suc m) z q ∙ omega arith) k h e ∙ omega arith

pub all_order_cared : (P : ℕ → History → History → Sweep → Type 0) (old new : List History) (sweeps : List Sweep) → ((k : ℕ) (f h : History) (x : Sweep) → P k f h x → CaredAt f h x)
    → EachSweep P 0 old new sweeps → AreInOrder old → AreInOrder new
all_order_cared P old new sweeps cared a order k h e = order_cared P 0 0 old new sweeps cared a (λ m g f. order m g f ∙ omega arith) k h e ∙ omega arith

swept_clients : (server : ServerNo) (swept : List Swept) (links : List LinkState) → clients_of (swept_graves server swept links) ≡ []
swept_clients server [] [] = refl
swept_clients server [] (l ∷ links) = refl
swept_clients server (x ∷ swept) [] = refl
swept_clients server (x ∷ swept) (l ∷ links) = swept_clients server swept links

pub sweep_clients : (i : ℕ) (sweeps : List Sweep) → clients_of (sweep_graves i sweeps) ≡ []
sweep_clients i [] = refl
sweep_clients i (x ∷ sweeps) =
    flat_map-append (λ (g : Grave). client_of g.owner) (swept_graves (server_no i) x.swept x.links) (sweep_graves (i + 1) sweeps)
    ∙ (ap (λ xs. xs ++ clients_of (sweep_graves (i + 1) sweeps)) (swept_clients (server_no i) x.swept x.links) ∙ sweep_clients (i + 1) sweeps)

swept_dials : (new : History) (server : ServerNo) (swept : List Swept) (links : List LinkState) → new.about.server ≡ server → AreTheirLinks new swept links → (g : Grave)
    → Contains (swept_graves server swept links) g → TellsOwner g.owner g.link
swept_dials new server [] [] e a g c = absurd (none_in g c)
swept_dials new server [] (l ∷ links) e a g c = absurd (none_in g c)
swept_dials new server (x ∷ swept) [] e a g c = absurd (none_in g c)
swept_dials new server (x ∷ swept) (l ∷ links) e a g c = ⊎_elim
    (λ (h : Contains (grave (OfConn server x.face.id) l ∷ []) g).
    subst (λ (z : Grave). TellsOwner z.owner z.link) (one_in (grave (OfConn server x.face.id) l) g h) (subst (λ (n : ServerNo). TellsDial n x.face.id l) e a.0.dial))
    (λ (h : Contains (swept_graves server swept links) g). swept_dials new server swept links e a.1 g h)
    (Contains-append_cases (grave (OfConn server x.face.id) l ∷ []) (swept_graves server swept links) g c)

pub sweep_dials : (P : ℕ → History → History → Sweep → Type 0) (old new : List History) (sweeps : List Sweep) → ((k : ℕ) (f h : History) (x : Sweep) → P k f h x → CaredAt f h x)
    → EachSweep P 0 old new sweeps → AreInOrder new → (g : Grave) → Contains (sweep_graves 0 sweeps) g → TellsOwner g.owner g.link
sweep_dials P old new sweeps cared each order g c =
    let h = sweep_has 0 sweeps g c in
    let x = h.1 in
    let b = seat_of P 0 old new sweeps h.0 x each h.2 in
    ⊎_elim
    (λ (q : (b.after ≡ b.before) × (x ≡ no_sweep)). absurd (none_in g (subst (λ (z : Sweep). Contains (swept_graves (server_no (0 + h.0)) z.swept z.links) g) q.1 h.3)))
    (λ (s : IsSwept b.before b.after x).
    let at : b.after.about.server.0 ≡ 0 + h.0 = order h.0 b.after b.at_new ∙ sym (from_zero h.0) in
    swept_dials b.after (server_no (0 + h.0)) x.swept x.links (server_is b.after.about.server (server_no (0 + h.0)) at) s.links g h.3)
    (cared (0 + h.0) b.before b.after x b.does)
