-- A call of one session carries on how far the exchanges of each connection reach in its bytes.
use Rattle.std.proofs.Common.{◌≡◌, ◌⊎◌, ⊎_elim, inl, inr, ℕ, zero, suc, ◌+◌, Bool, true, false, List, [], ◌∷◌, ◌++◌, length, refl, sym, ap, ◌∙◌, subst, arith, Option, Some, None, IsSome, eq-eqb}
use Rattle.std.specs.Prelude.{IfSome, Contains, slice_get, if◌then◌else◌}
use Rattle.std.proofs.lemmas.List.Elements.{Contains-append_right, Contains-push}
use mathlib.Core.Logic.{dite}
use native.Mathlib.Decide.{ℕ_discrete}
use Rattle.hx_base.specs.declared.numbers.ConnId.{ConnId}
use Rattle.hx_base.specs.declared.numbers.PlaceNo.{PlaceNo}
use Rattle.hx_base.specs.declared.numbers.ServerNo.{ServerNo}
use Rattle.hx_base.specs.declared.numbers.SessionNo.{SessionNo}
use Rattle.hx_base.specs.declared.numbers.ThreadNo.{ThreadNo}
use Rattle.hx_base.specs.declared.what.LinkTold.{LinkTold}
use Rattle.hx_base.specs.declared.what.What.{What}
use Rattle.hx_conn.specs.Conns.{BusyNow}
use Rattle.hx_conn.specs.WhatTold.{what_of_link}
use Rattle.hx_link.specs.Nets.{NetState}
use Rattle.hx_link.specs.Told.{LinkState}
use Rattle.hx_pool.specs.declared.entries.Entry.{Entry}
use Rattle.hx_pool.specs.declared.entries.Entry.TheVariants.{Open, Park, Take, Close}
use Rattle.hx_pool.specs.declared.entries.Note.{Note}
use Rattle.hx_pool.specs.History.{marks_of, table_from, table_after, what_of, EachStep, MeetsNeeds}
use Rattle.hx_pool.specs.SeatView.{History, Makes, StandsInOneHistory}
use Rattle.hx_pool.specs.Table.{Table, Unopened, HeldBy, IdleAt, Closed, face_of}
use Rattle.hx_pool.proofs.Tables.{put_same, Sound, sound_at, closed_along}
use Rattle.hx_record.specs.Covers.{CoversConn}
use Rattle.hx_record.specs.Tiles.{carried_by}
use Rattle.hx_record.specs.declared.served.Carried.{Carried}
use Rattle.hx_record.specs.declared.served.Kind.{Kind}
use Rattle.hx_record.specs.declared.served.Kind.TheVariants as kind
use Rattle.hx_record.specs.declared.served.Left.{Left}
use Rattle.hx_record.specs.declared.served.LeftCause.{LeftCause}
use Rattle.hx_record.specs.declared.served.Served.{Served}
use Rattle.hx_record.specs.declared.served.Told.{Told}
use Rattle.hx_connecting.specs.Exchanges.{BeginsAt, HadGoes, TookGoes, OpenedGoes, CameGoes, ExchangeGoes, IsClosed, EndsWith, PassedEnds}
use Rattle.hx_connecting.specs.Links.{NoLinkGoes, TellsBefore, TellsAfter, IsBuried}
use Rattle.hx_connecting.specs.Sessions.{SessionNow, Holding, Resting, Exchanging, conn_id, conn_link, conn_server, IsSomeAnd}
use Rattle.hx_connecting.specs.Touches.{Came, Had, Opened, Took, Went, Stays, Rests, Ends, EndsTakenBack, Touch, Adds, AddsEach, HasMarks, came_marks, went_marks, touch_marks, marks_at}
use Rattle.hx_connecting.specs.Ways.{IsOwn, HasNoExchange}
use Rattle.hx_session.specs.Records.{ItsExchange, IsOfExchange}
use Rattle.hx_session.specs.Telling.{KindTold, RecordsTold}
use Rattle.hx_worker.proofs.ByNumber.{placed_other, placed_same, if_going}
use Rattle.hx_worker.specs.Steps.{placed}
use Rattle.hx_connecting.specs.Holds.{HasJust, conn_at}
use Rattle.hx_pool.proofs.Holding.{has_with}
use Rattle.hx_pool.proofs.Owning.{just_has}
use Rattle.hx_worker.specs.Workers.{Each, OwnsAll, held_of, session_of, NumbersRise}
use Rattle.hx_course.specs.Calls.{AreAlone, TookLast, TouchGoes}
use Rattle.hx_course.specs.Conns.{CoversHeld, HeldTells, CoversSome, IsOver, KeepsConns}
use Rattle.hx_course.specs.Graves.{Grave, OfConn, grave}
use Rattle.hx_course.specs.Lines.{lines_of}
use Rattle.hx_course.specs.Places.{IsAtRest}
use Rattle.hx_course.proofs.ConnLines.{conn_as, lines_none, lines_one, carried_here, carried_past, own_none, told_parts, is_some, some_is_there}
use Rattle.hx_course.proofs.GoingLemmas.{adds_old, adds_new, conn_is, server_is, goes_from, had_before, from_zero, marks_here, marks_past, touch_spares}
use Rattle.hx_course.proofs.Numbers.{some_is, found_number}
use Rattle.hx_course.proofs.TableLemmas.{table_alone, legal_alone, AllSpare, spared, first_needs, park_rests, closed_by, held_one, unopened_before}

-- the exchange of a record
abbrev ItsKind : SessionNow → Kind → Type 0
ItsKind s (kind.Passed c) = ItsExchange s c
ItsKind s (kind.Cut c why) = ItsExchange s c
ItsKind s (kind.Own status) = IsOwn (kind.Own status)

its_kind : (s a : SessionNow) (conn : Option What) (why : LeftCause) (r : Served) (k : Kind) → KindTold s a conn why r k → ItsKind s k
its_kind s a conn why r (kind.Passed c) t = t.0
its_kind s a conn why r (kind.Cut c w) t = t.0
its_kind s a conn why r (kind.Own status) t = tt

pub its_record : (s a : SessionNow) (conn : Option What) (left : Option Left) (served : Option Served) → RecordsTold s a conn left served → IfSome served (λ r. ItsKind s r.kind)
its_record s a conn left None t = tt
its_record s a conn left (Some r) t = its_kind s a conn (Rattle.hx_session.specs.Records.leaves_for left) r r.kind t.kind

-- with a record no exchange is under way any more
pub its_over : (s a : SessionNow) (conn : Option What) (left : Option Left) (served : Option Served) → RecordsTold s a conn left served → IfSome served (λ r. HasNoExchange a.conn)
its_over s a conn left None t = tt
its_over s a conn left (Some r) t = t.over

-- of the record of an exchange, that exchange
abbrev IsThe : Kind → Carried → Type 0
IsThe k c = (k ≡ kind.Passed c) ⊎ ((why : _) × (k ≡ kind.Cut c why))

carried_the : (k : Kind) (c : Carried) (server : ServerNo) (id : ConnId) → IsThe k c → c.server ≡ server → c.id ≡ id → carried_by server id k ≡ c ∷ []
carried_the k c server id (inl e) f i = ap (carried_by server id) e ∙ carried_here server id c (ap (λ (n : ServerNo). n.0) f) (ap (λ (n : ConnId). n.0) i)
carried_the k c server id (inr (why, e)) f i = ap (carried_by server id) e ∙ carried_here server id c (ap (λ (n : ServerNo). n.0) f) (ap (λ (n : ConnId). n.0) i)

own_lines : (server : ServerNo) (id : ConnId) (o : Option Served) → IfSome o (λ r. IsOwn r.kind) → IfSome o (λ r. carried_by server id r.kind ≡ [])
own_lines server id None k = tt
own_lines server id (Some r) k = own_none server id r.kind k

-- without an exchange only an own answer's record is given
own_without : (s : SessionNow) (o : Option Served) → IfSome o (λ r. ItsKind s r.kind) → ((b : BusyNow) → s.conn ≡ Some (Exchanging b) → ⊥) → IfSome o (λ r. IsOwn r.kind)
own_without s None k none = tt
own_without s (Some r) k none = by_kind r.kind k
  where
    by_kind : (k : Kind) → ItsKind s k → IsOwn k
    by_kind (kind.Passed c) i = absurd (none i.0 i.1)
    by_kind (kind.Cut c why) i = absurd (none i.0 i.1)
    by_kind (kind.Own status) i = tt

-- with no exchange under way behind it, the record is none of an exchange where one is
own_with : (o : Option Served) (c : Holding) (b : BusyNow) → c ≡ Exchanging b → ((r : Served) → o ≡ Some r → (IsOwn r.kind → ⊥) → HasNoExchange (Some c)) → IfSome o (λ r. IsOwn r.kind)
own_with None c b e over = tt
own_with (Some r) c b e over = by_kind r.kind refl
  where
    no_exchange : (IsOwn r.kind → ⊥) → ⊥
    no_exchange n = subst (λ (q : Holding). HasNoExchange (Some q)) e (over r refl n)

    by_kind : (k : Kind) → r.kind ≡ k → IsOwn r.kind
    by_kind (kind.Passed c) q = absurd (no_exchange (λ o. subst (λ (z : Kind). IsOwn z) q o))
    by_kind (kind.Cut c why) q = absurd (no_exchange (λ o. subst (λ (z : Kind). IsOwn z) q o))
    by_kind (kind.Own status) q = subst (λ (z : Kind). IsOwn z) (sym q) tt

-- ---- seats after a call

at_zero : (i : ℕ) → i ≡ i + 0
at_zero i = omega arith

at_next : (i k : ℕ) → (i + 1) + k ≡ i + suc k
at_next i k = omega arith

-- a seat after a call, that before it, and the entries in between
pub adds_back : (P : ℕ → List Note → Type 0) (i : ℕ) (old new : List History) (added : List (List Note)) (k : ℕ) (h : History) → AddsEach P i old new added → slice_get new k ≡ Some h
    → (g : History) × (es : List Note) × (slice_get old k ≡ Some g) × Makes g h es × P (i + k) es
adds_back P i [] [] [] k h a e = cc
adds_back P i [] [] (x ∷ added) k h a e = absurd a
adds_back P i [] (y ∷ new) added k h a e = absurd a
adds_back P i (x ∷ old) [] added k h a e = absurd a
adds_back P i (x ∷ old) (y ∷ new) [] k h a e = absurd a
adds_back P i (x ∷ old) (y ∷ new) (es ∷ added) zero h a e = let is : y ≡ h = cc in (x, es, refl, subst (λ (z : History). Makes x z es) is a.0, subst (λ n. P n es) (at_zero i) a.1)
adds_back P i (x ∷ old) (y ∷ new) (es ∷ added) (suc k) h a e =
    let r = adds_back P (i + 1) old new added k h a.2 e in (r.0, r.1, r.2, r.3, subst (λ n. P n r.1) (at_next i k) r.4)

if_some : {A : Type 0} (o : Option A) (P : A → Type 0) → ((x : A) → o ≡ Some x → P x) → IfSome o P
if_some None P f = tt
if_some (Some x) P f = f x refl

not_idle : (T : Table) (i : ℕ) (place : PlaceNo) (t : ThreadNo) (n : SessionNo) → T.conns i ≡ IdleAt place → T.conns i ≡ HeldBy t n → ⊥
not_idle T i place t n a b = let e = sym a ∙ b in cc

not_fresh : (T : Table) (i : ℕ) (t : ThreadNo) (n : SessionNo) → T.conns i ≡ Unopened → T.conns i ≡ HeldBy t n → ⊥
not_fresh T i t n a b = let e = sym a ∙ b in cc

not_closed : (T : Table) (i : ℕ) (t : ThreadNo) (n : SessionNo) → T.conns i ≡ Closed → T.conns i ≡ HeldBy t n → ⊥
not_closed T i t n a b = let e = sym a ∙ b in cc

not_both : (T : Table) (i : ℕ) (place : PlaceNo) → T.conns i ≡ IdleAt place → T.conns i ≡ Closed → ⊥
not_both T i place a b = let e = sym a ∙ b in cc

held_same : (t : ThreadNo) (n m : SessionNo) → HeldBy t n ≡ HeldBy t m → n ≡ m
held_same t n m e = cc

-- ---- what the seats hold

each_at : (P : History → Type 0) (seats : List History) (i : ℕ) (h : History) → Each P seats → slice_get seats i ≡ Some h → P h
each_at P [] i h a e = cc
each_at P (k ∷ seats) zero h a e = let is : k ≡ h = cc in subst P is a.0
each_at P (k ∷ seats) (suc i) h a e = each_at P seats i h a.1 e

-- a session's connection is held at its server's seat
pub held_in : (seats : List History) (ss : List SessionNow) → OwnsAll seats ss → Each StandsInOneHistory seats → (m : SessionNow) (c : Holding) → session_of ss m.number.0 ≡ Some m → m.conn ≡ Some c
    → (h : History) → slice_get seats (conn_server c).0 ≡ Some h → (table_after h.seen).conns (conn_id c).0 ≡ HeldBy h.about.thread m.number
held_in seats ss owns all m c is has h at =
    let i = (conn_server c).0 in
    let one = each_at StandsInOneHistory seats i h all at in
    let held : held_of (session_of ss m.number.0) i ≡ Some c =
    ap (λ (o : Option SessionNow). held_of o i) is ∙ (ap (λ (o : Option Holding). conn_at o i) has ∙ ap (λ (b : Bool). if b then Some c else None) (eq-eqb i i refl)) in
    let just : HasJust h m.number (Some c) = subst (λ (o : Option Holding). HasJust h m.number o) held (owns i h m.number at) in
    (has_with h m.number (conn_id c).0 just.0 one (just_has h m.number (face_of (conn_id c) just.0) one just.1)).0

module _ (ss : List SessionNow) (last : ℕ) (s a : SessionNow) (seats seats' : List History) (added : List (List Note)) (first : Bool) (net net' : NetState) (x : Option Touch)
    (graves graves' : List Grave) (records : List Told) (served : Option Served) (left : Option Left)
    (rise : NumbersRise 0 ss last) (there : session_of ss s.number.0 ≡ Some s) (worker : a.worker ≡ s.worker) (number : a.number ≡ s.number) (empty : a.over ≡ true → a.conn ≡ None)
    (adds : Adds s.worker s.number first x seats seats' added) (alone : AreAlone seats) (its : IfSome served (λ r. ItsKind s r.kind))
    (own : x ≡ None → IfSome served (λ r. IsOwn r.kind)) (none : x ≡ None → NoLinkGoes s a net net') (some : (y : Touch) → x ≡ Some y → TouchGoes s a seats seats' added net net' y)
    (exch : (y : Touch) (e : x ≡ Some y) → ExchangeGoes s a y y.went (some y e).goes.before served)
    (passed : (y : Touch) (e : x ≡ Some y) → IfSome served (λ r. PassedEnds s y (some y e).goes.after r.kind))
    (over : IfSome served (λ r. HasNoExchange a.conn))
    (new_grave : (server : ServerNo) (id : ConnId) (l : LinkState) → Contains graves' (grave (OfConn server id) l)
    → Contains graves (grave (OfConn server id) l) ⊎ ((y : Touch) × (e : x ≡ Some y) × (server ≡ y.server) × (id ≡ y.id) × ((some y e).goes.gone ≡ Some l)))
    (held_at : (m : SessionNow) (c : Holding) → session_of ss m.number.0 ≡ Some m → m.conn ≡ Some c → (h : History) → slice_get seats (conn_server c).0 ≡ Some h
    → (table_after h.seen).conns (conn_id c).0 ≡ HeldBy h.about.thread m.number)
    (keeps : KeepsConns ss seats records graves) where
  abbrev ss' : List SessionNow
  ss' = placed ss a

  abbrev records' : List Told
  records' = records ++ lines_of served left

  no_is : a.number.0 ≡ s.number.0
  no_is = ap (λ (k : SessionNo). k.0) number

  here : session_of ss a.number.0 ≡ Some s
  here = ap (session_of ss) no_is ∙ there

  same : session_of ss' a.number.0 ≡ if_going a
  same = placed_same 0 last ss s a rise here

  -- the session's exchange isn't on that connection
  abbrev NotIts : ServerNo → ConnId → Type 0
  NotIts server id = (b : BusyNow) → s.conn ≡ Some (Exchanging b) → (y : Touch) → x ≡ Some y → b.server ≡ server → b.id ≡ id → ⊥

  -- so the call's lines aren't of it
  apart : (server : ServerNo) (id : ConnId) → NotIts server id → IfSome served (λ r. carried_by server id r.kind ≡ [])
  apart server id not = by_served served refl its
    where
      by_touch : (c : Carried) → ItsExchange s c → (IfSome served (λ r. IsOwn r.kind) → ⊥) → (o : Option Touch) → x ≡ o → c.server.0 ≡ server.0 → c.id.0 ≡ id.0 → ⊥
      by_touch c i other None e f g = other (own e)
      by_touch c i other (Some y) e f g = not i.0 i.1 y e (sym i.2.server ∙ server_is c.server server f) (sym i.2.id ∙ conn_is c.id id g)

      by_kind : (r : Served) → served ≡ Some r → (k : Kind) → r.kind ≡ k → ItsKind s k → carried_by server id k ≡ []
      by_kind r e (kind.Passed c) q i = carried_past server id c (by_touch c i (λ o. subst (λ (z : Kind). IsOwn z) q (subst (λ (p : Option Served). IfSome p (λ v. IsOwn v.kind)) e o)) x refl)
      by_kind r e (kind.Cut c why) q i = carried_past server id c (by_touch c i (λ o. subst (λ (z : Kind). IsOwn z) q (subst (λ (p : Option Served). IfSome p (λ v. IsOwn v.kind)) e o)) x refl)
      by_kind r e (kind.Own status) q i = refl

      by_served : (o : Option Served) → served ≡ o → IfSome o (λ r. ItsKind s r.kind) → IfSome o (λ r. carried_by server id r.kind ≡ [])
      by_served None e i = tt
      by_served (Some r) e i = by_kind r e r.kind refl i

  apart_on : (server : ServerNo) (id : ConnId) → NotIts server id → (sent took count : ℕ) → CoversConn server id records sent took count → CoversConn server id records' sent took count
  apart_on server id not sent took count c = lines_none server id records served left sent took count (apart server id not) c

  own_on : (server : ServerNo) (id : ConnId) → IfSome served (λ r. IsOwn r.kind) → (sent took count : ℕ) → CoversConn server id records sent took count → CoversConn server id records' sent took count
  own_on server id k sent took count c = lines_none server id records served left sent took count (own_lines server id served k) c

  -- by what its seat says of the connection
  state_apart : (server : ServerNo) (id : ConnId) (g : History) → slice_get seats server.0 ≡ Some g → ((table_after g.seen).conns id.0 ≡ HeldBy g.about.thread s.number → ⊥) → NotIts server id
  state_apart server id g at other b is y e f i =
      other (ap (λ (n : ConnId). (table_after g.seen).conns n.0) (sym i) ∙ held_at s (Exchanging b) there is g (ap (λ (n : ServerNo). slice_get seats n.0) f ∙ at))

  -- ---- the touched connection

  module _ (y : Touch) (e : x ≡ Some y) where
    abbrev k : TouchGoes s a seats seats' added net net' y
    k = some y e

    abbrev t : ThreadNo
    t = s.worker

    abbrev n : SessionNo
    n = s.number

    before : (g : History) × (slice_get seats y.server.0 ≡ Some g) × Makes g k.history k.es × HasMarks t n first x (0 + y.server.0) k.es
    before = adds_new (HasMarks t n first x) 0 seats seats' added y.server.0 k.history k.es adds k.seat k.entries

    abbrev g : History
    g = before.0

    abbrev T : Table
    T = table_after g.seen

    one : g.about.threads ≡ 1
    one = alone y.server.0 g before.1

    table : table_after k.history.seen ≡ table_from T k.es
    table = table_alone g k.history k.es before.2 one

    legal : EachStep MeetsNeeds T k.es
    legal = legal_alone g k.history k.es before.2 one

    sound : Sound T
    sound = sound_at g.seen before.2.was.legal

    marks_are : marks_of k.es ≡ touch_marks t n first y
    marks_are =
        subst (λ (i : ℕ). marks_of k.es ≡ marks_at t n first x i) (from_zero y.server.0) before.3.marks
        ∙ (ap (λ (o : Option Touch). marks_at t n first o y.server.0) e ∙ marks_here t n first y y.server.0 refl)

    marks_by : (came : Came) (went : Went) → y.came ≡ came → y.went ≡ went → marks_of k.es ≡ came_marks t n first y.id came ++ went_marks t n y.id went
    marks_by came went c w = marks_are ∙ (ap (λ (z : Came). came_marks t n first y.id z ++ went_marks t n y.id y.went) c ∙ ap (λ (z : Went). came_marks t n first y.id came ++ went_marks t n y.id z) w)

    -- what its seat said of it before
    opened_before : y.came ≡ Opened → T.conns y.id.0 ≡ Unopened
    opened_before c =
        let r = first_needs T k.es (Open t n y.id) (went_marks t n y.id y.went) sound legal (marks_by Opened y.went c refl) in
        let next = r.2.1 in
        sym (r.3 y.id.0).conn ∙ r.1.fresh y.id.0 (omega (arith, next))

    took_before : (place : PlaceNo) (uses : ℕ) → y.came ≡ Took place uses → (T.conns y.id.0 ≡ IdleAt place) × (T.uses y.id.0 ≡ uses)
    took_before place uses c =
        let r = first_needs T k.es (Take t n first place y.id uses) (went_marks t n y.id y.went) sound legal (marks_by (Took place uses) y.went c refl) in
        let rests = r.1.rests place (face_of y.id uses) r.2.0 r.2.1 in
        (sym (r.3 y.id.0).conn ∙ rests.0, sym (r.3 y.id.0).uses ∙ rests.1)

    -- how far its exchanges reached before
    opened_covers : y.came ≡ Opened → CoversConn y.server y.id records 0 0 0
    opened_covers c = keeps.fresh y.server y.id g before.1 (opened_before c)

    took_covers : (place : PlaceNo) (uses : ℕ) → y.came ≡ Took place uses → (v : What) → k.goes.before ≡ Some v → (l : LinkTold) → v.told ≡ Some l → CoversConn y.server y.id records (length l.sent) (length l.taken) uses
    took_covers place uses c v b l is =
        let state = took_before place uses c in
        let last = subst (λ (z : Came). TookLast seats y.server y.id z k.goes.before) c k.took in
        let r : IsAtRest seats y.server y.id v = record { seat = g; at = before.1; place = place; rests = state.0; beside = sym (last g before.1) ∙ b } in
        let all : CoversConn y.server y.id records (length l.sent) (length l.taken) (T.uses y.id.0) =
        subst (λ (o : Option LinkTold). IfSome o (λ m. CoversConn y.server y.id records (length m.sent) (length m.taken) (T.uses y.id.0))) is (keeps.rests y.server y.id v r) in
        subst (λ (j : ℕ). CoversConn y.server y.id records (length l.sent) (length l.taken) j) state.1 all

    had_covers : (c : Holding) → s.conn ≡ Some c → HeldTells c → CoversHeld records c
    had_covers c is tells = keeps.held s.number.0 s c there is tells

    -- its link told its bytes before where it tells them after
    told_before : (v w : What) → k.goes.before ≡ Some v → k.goes.after ≡ Some w → IsSome w.told → IsSome v.told
    told_before v w b z i =
        let r = goes_from k.goes.before k.goes.after v b k.goes.same in
        let is : w ≡ r.0 = some_is w r.0 (sym z ∙ r.1) in
        r.2.told_before (subst (λ (q : What). IsSome q.told) is i)

    -- with the session's exchange b
    had_is : (c : Holding) → s.conn ≡ Some c → (conn_server c ≡ y.server) × (conn_id c ≡ y.id) × (k.goes.before ≡ Some (what_of_link (conn_link c)))
    had_is c is = had_before s k.history k.es y y.came k.goes.before c is k.goes.was

    -- a record of it stands right behind what was covered
    record_on : (b : BusyNow) → s.conn ≡ Some (Exchanging b) → (r : Served) → served ≡ Some r → (c : Carried) → IsThe r.kind c → IsOfExchange b c
        → CoversConn b.server b.id records b.exchange.sent_from b.exchange.taken_from b.uses → CoversConn b.server b.id records' c.sent.to c.took.to (b.uses + 1)
    record_on b is r q c the o v =
        subst (λ (z : Option Served). CoversConn b.server b.id (records ++ lines_of z left) c.sent.to c.took.to (b.uses + 1)) (sym q)
        (lines_one b.server b.id records r c left b.exchange.sent_from b.exchange.taken_from b.uses (carried_the r.kind c b.server b.id the o.server o.id)
        (record { number = o.nth; sends = (o.sent, o.sent_rises); takes = (o.took, o.took_rises) }) v)

    -- how a passed exchange ends on a connection that isn't closed
    passed_ends : (r : Served) → served ≡ Some r → (c : Carried) → r.kind ≡ kind.Passed c → (IsClosed y.went → ⊥) → (b : BusyNow) → s.conn ≡ Some (Exchanging b) → (w : What) → k.goes.after ≡ Some w
        → (l : LinkTold) → w.told ≡ Some l → EndsWith b c l.sent l.taken
    passed_ends r q c the open_ b is w after l told =
        let all : PassedEnds s y k.goes.after r.kind = subst (λ (z : Option Served). IfSome z (λ v. PassedEnds s y k.goes.after v.kind)) q (passed y e) in
        by_end k.goes.after after (subst (λ (z : Kind). PassedEnds s y k.goes.after z) the all)
      where
        by_end : (o : Option What) → o ≡ Some w → PassedEnds s y o (kind.Passed c) → EndsWith b c l.sent l.taken
        by_end o f (inl closed) = absurd (open_ closed)
        by_end o f (inr (d, had, ends)) =
            let at_w : IfSome w.told (λ m. EndsWith d c m.sent m.taken) = subst (λ (z : Option What). IsSomeAnd z (λ u. IfSome u.told (λ m. EndsWith d c m.sent m.taken))) f ends in
            let at_l : EndsWith d c l.sent l.taken = subst (λ (z : Option LinkTold). IfSome z (λ m. EndsWith d c m.sent m.taken)) told at_w in
            let both : Some (Exchanging d) ≡ Some (Exchanging b) = sym had ∙ is in
            let same : d ≡ b = cc in
            subst (λ (z : BusyNow). EndsWith z c l.sent l.taken) same at_l

    -- and the record is of the session's exchange
    of_exchange : (r : Served) → served ≡ Some r → (c : Carried) → r.kind ≡ kind.Passed c → (b : BusyNow) → s.conn ≡ Some (Exchanging b) → IsOfExchange b c
    of_exchange r q c the b is =
        let i : ItsExchange s c = subst (λ (z : Kind). ItsKind s z) the (subst (λ (z : Option Served). IfSome z (λ v. ItsKind s v.kind)) q its) in
        let both : Some (Exchanging i.0) ≡ Some (Exchanging b) = sym i.1 ∙ is in
        let same : i.0 ≡ b = cc in
        subst (λ (z : BusyNow). IsOfExchange z c) same i.2

    -- ---- it stays with the session

    had_stays : (c d : Holding) → s.conn ≡ Some c → a.conn ≡ Some d → HadGoes c d served → conn_server d ≡ y.server → conn_id d ≡ y.id → k.goes.after ≡ Some (what_of_link (conn_link d)) → HeldTells d
        → (IsClosed y.went → ⊥) → CoversHeld records' d
    had_stays (Exchanging b) (Exchanging d) is now h to num after tells open_ =
        let had = had_is (Exchanging b) is in
        let old = had_covers (Exchanging b) is (told_before (what_of_link b.link) (what_of_link d.link) had.2 after tells) in
        let owns = own_with served (Exchanging d) d refl (λ r q f. subst (λ (o : Option Holding). HasNoExchange o) now (subst (λ (o : Option Served). IfSome o (λ v. HasNoExchange a.conn)) q over)) in
        conn_as b.server d.server b.id d.id records' b.exchange.sent_from d.exchange.sent_from b.exchange.taken_from d.exchange.taken_from b.uses d.uses
        (had.0 ∙ sym to) (had.1 ∙ sym num) (sym h.begins.sent_from) (sym h.begins.taken_from) (sym h.begins.uses_are)
        (own_on b.server b.id owns b.exchange.sent_from b.exchange.taken_from b.uses old)
    had_stays (Exchanging b) (Resting r) is now h to num after tells open_ =
        let had = had_is (Exchanging b) is in
        let old = had_covers (Exchanging b) is (told_before (what_of_link b.link) (what_of_link r.link) had.2 after tells) in
        let v = h.1.0 in
        let c = h.1.1 in
        let l = is_some (what_of_link r.link).told tells in
        let ends = passed_ends v h.1.2 c h.1.3 open_ b is (what_of_link r.link) after l.0 l.1 in
        let parts = told_parts r.link.sent r.link.taken r.link.told_end l.0 l.1 in
        let counted = h.2 in
        let sent : length l.0.sent ≡ r.link.sent_count = subst (λ (o : Option (List ℕ)). IfSome o (λ z. length z ≡ r.link.sent_count)) parts.0 counted.sent in
        let took : length l.0.taken ≡ r.link.taken_count = subst (λ (o : Option (List ℕ)). IfSome o (λ z. length z ≡ r.link.taken_count)) parts.1 counted.taken in
        conn_as b.server r.server b.id r.id records' c.sent.to r.link.sent_count c.took.to r.link.taken_count (b.uses + 1) r.uses
        (had.0 ∙ sym to) (had.1 ∙ sym num) (ends.all_sent ∙ sent) (ends.all_taken ∙ took) (sym h.0)
        (record_on b is v h.1.2 c (inl h.1.3) (of_exchange v h.1.2 c h.1.3 b is) old)
    had_stays (Resting q) (Exchanging d) is now h to num after tells open_ =
        let had = had_is (Resting q) is in
        let old = had_covers (Resting q) is (told_before (what_of_link q.link) (what_of_link d.link) had.2 after tells) in
        let owns = own_without s served its (λ b f. let no_ = sym is ∙ f in cc) in
        conn_as q.server d.server q.id d.id records' q.link.sent_count d.exchange.sent_from q.link.taken_count d.exchange.taken_from q.uses d.uses
        (had.0 ∙ sym to) (had.1 ∙ sym num) (sym h.sent_from) (sym h.taken_from) (sym h.uses_are)
        (own_on q.server q.id owns q.link.sent_count q.link.taken_count q.uses old)
    had_stays (Resting q) (Resting r) is now h to num after tells open_ =
        let had = had_is (Resting q) is in
        let old = had_covers (Resting q) is (told_before (what_of_link q.link) (what_of_link r.link) had.2 after tells) in
        let owns = own_without s served its (λ b f. let no_ = sym is ∙ f in cc) in
        conn_as q.server r.server q.id r.id records' q.link.sent_count r.link.sent_count q.link.taken_count r.link.taken_count q.uses r.uses
        (had.0 ∙ sym to) (had.1 ∙ sym num) (sym h.1) (sym h.2) (sym h.0)
        (own_on q.server q.id owns q.link.sent_count q.link.taken_count q.uses old)

    -- the session had none before
    had_none : (came : Came) → y.came ≡ came → (came ≡ Had → ⊥) → s.conn ≡ None
    had_none came c other = by_came y.came refl k.goes.was
      where
        by_came : (z : Came) → y.came ≡ z → TellsBefore s k.history k.es y z k.goes.before → s.conn ≡ None
        by_came Had f w = absurd (other (sym c ∙ f))
        by_came Opened f w = w.0
        by_came (Took place uses) f w = w.0

    no_exchange : s.conn ≡ None → IfSome served (λ r. IsOwn r.kind)
    no_exchange is = own_without s served its (λ b f. let no_ = sym is ∙ f in cc)

    opened_stays : (d : Holding) → y.came ≡ Opened → OpenedGoes d → conn_server d ≡ y.server → conn_id d ≡ y.id → CoversHeld records' d
    opened_stays (Resting r) c h to num = absurd h
    opened_stays (Exchanging d) c h to num =
        let owns = no_exchange (had_none Opened c (λ f. cc)) in
        conn_as y.server d.server y.id d.id records' 0 d.exchange.sent_from 0 d.exchange.taken_from 0 d.uses
        (sym to) (sym num) (sym h.sent_from) (sym h.taken_from) (sym h.uses_are) (own_on y.server y.id owns 0 0 0 (opened_covers c))

    took_stays : (d : Holding) (place : PlaceNo) (uses : ℕ) → y.came ≡ Took place uses → TookGoes k.goes.before uses d → conn_server d ≡ y.server → conn_id d ≡ y.id
        → k.goes.after ≡ Some (what_of_link (conn_link d)) → HeldTells d → CoversHeld records' d
    took_stays (Resting r) place uses c h to num after tells = absurd h
    took_stays (Exchanging d) place uses c h to num after tells = by_before k.goes.before refl h.1
      where
        by_before : (o : Option What) → k.goes.before ≡ o → IsSomeAnd o (λ w. IfSome w.told (λ l. BeginsAt d uses (length l.sent) (length l.taken))) → CoversHeld records' (Exchanging d)
        by_before None b i = absurd i
        by_before (Some v) b i =
            let l = is_some v.told (told_before v (what_of_link d.link) b after tells) in
            let begins : BeginsAt d uses (length l.0.sent) (length l.0.taken) = subst (λ (o : Option LinkTold). IfSome o (λ m. BeginsAt d uses (length m.sent) (length m.taken))) l.1 i in
            let owns = no_exchange (had_none (Took place uses) c (λ f. cc)) in
            conn_as y.server d.server y.id d.id records' (length l.0.sent) d.exchange.sent_from (length l.0.taken) d.exchange.taken_from uses d.uses
            (sym to) (sym num) (sym begins.sent_from) (sym begins.taken_from) (sym begins.uses_are)
            (own_on y.server y.id owns (length l.0.sent) (length l.0.taken) uses (took_covers place uses c v b l.0 l.1))

    came_stays : (came : Came) → y.came ≡ came → (d : Holding) → a.conn ≡ Some d → CameGoes came s.conn k.goes.before d served → conn_server d ≡ y.server → conn_id d ≡ y.id
        → k.goes.after ≡ Some (what_of_link (conn_link d)) → HeldTells d → (IsClosed y.went → ⊥) → CoversHeld records' d
    came_stays Had c d now h to num after tells open_ = by_conn s.conn refl h
      where
        by_conn : (o : Option Holding) → s.conn ≡ o → CameGoes Had o k.goes.before d served → CoversHeld records' d
        by_conn None f g = absurd g
        by_conn (Some q) f g = had_stays q d f now g to num after tells open_
    came_stays Opened c d now h to num after tells open_ = opened_stays d c h to num
    came_stays (Took place uses) c d now h to num after tells open_ = took_stays d place uses c h to num after tells

    -- what the session has after the call
    touched_held : (d : Holding) → a.conn ≡ Some d → HeldTells d → CoversHeld records' d
    touched_held d now tells = by_went y.went refl k.goes.is (exch y e)
      where
        by_went : (w : Went) → y.went ≡ w → TellsAfter a k.es y w k.goes.gone k.goes.after → ExchangeGoes s a y w k.goes.before served → CoversHeld records' d
        by_went Stays f g h =
            let one_ : g.1.0 ≡ d = some_is g.1.0 d (sym g.1.1.0 ∙ now) in
            let two : h.0 ≡ d = some_is h.0 d (sym h.1 ∙ now) in
            came_stays y.came refl d now (subst (λ (z : Holding). CameGoes y.came s.conn k.goes.before z served) two h.2) (ap conn_server (sym one_) ∙ g.1.1.1) (ap conn_id (sym one_) ∙ g.1.1.2)
            (g.1.2 ∙ ap (λ (z : Holding). Some (what_of_link (conn_link z))) one_) tells (λ z. subst (λ (q : Went). IsClosed q) f z)
        by_went (Rests place uses) f g h = let no_ = sym now ∙ g.1 in cc
        by_went Ends f g h = let no_ = sym now ∙ g.0 in cc
        by_went (EndsTakenBack place uses) f g h = let no_ = sym now ∙ g.0 in cc

    -- ---- it is closed

    -- with the exchange that was under way, whatever record is given
    exchange_closed : (b : BusyNow) → s.conn ≡ Some (Exchanging b) → CoversConn b.server b.id records b.exchange.sent_from b.exchange.taken_from b.uses → CoversSome b.server b.id records'
    exchange_closed b is old = by_served served refl its
      where
        none_of : IfSome served (λ r. IsOwn r.kind) → CoversSome b.server b.id records'
        none_of owns = record { sent = b.exchange.sent_from; took = b.exchange.taken_from; count = b.uses; covers = own_on b.server b.id owns b.exchange.sent_from b.exchange.taken_from b.uses old }

        one_of : (r : Served) → served ≡ Some r → (c : Carried) → IsThe r.kind c → ItsExchange s c → CoversSome b.server b.id records'
        one_of r q c the i =
            let both : Some (Exchanging i.0) ≡ Some (Exchanging b) = sym i.1 ∙ is in
            let same_ : i.0 ≡ b = cc in
            record { sent = c.sent.to; took = c.took.to; count = b.uses + 1; covers = record_on b is r q c the (subst (λ (z : BusyNow). IsOfExchange z c) same_ i.2) old }

        by_kind : (r : Served) → served ≡ Some r → (z : Kind) → r.kind ≡ z → ItsKind s z → CoversSome b.server b.id records'
        by_kind r q (kind.Passed c) f i = one_of r q c (inl f) i
        by_kind r q (kind.Cut c why) f i = one_of r q c (inr (why, f)) i
        by_kind r q (kind.Own status) f i =
            none_of (subst (λ (o : Option Served). IfSome o (λ v. IsOwn v.kind)) (sym q) (subst (λ (u : Kind). IsOwn u) (sym f) tt))

        by_served : (o : Option Served) → served ≡ o → IfSome o (λ r. ItsKind s r.kind) → CoversSome b.server b.id records'
        by_served None q i = none_of (subst (λ (o : Option Served). IfSome o (λ v. IsOwn v.kind)) (sym q) tt)
        by_served (Some r) q i = by_kind r q r.kind refl i

    some_as : (server server' : ServerNo) (id id' : ConnId) → server ≡ server' → id ≡ id' → CoversSome server id records' → CoversSome server' id' records'
    some_as server server' id id' f i c = subst (λ (n : ServerNo). CoversSome n id' records') f (subst (λ (j : ConnId). CoversSome server j records') i c)

    had_closed : (c : Holding) → s.conn ≡ Some c → HeldTells c → CoversSome y.server y.id records'
    had_closed (Exchanging b) is tells =
        let had = had_is (Exchanging b) is in
        some_as b.server y.server b.id y.id had.0 had.1 (exchange_closed b is (had_covers (Exchanging b) is tells))
    had_closed (Resting q) is tells =
        let had = had_is (Resting q) is in
        let owns = own_without s served its (λ b f. let no_ = sym is ∙ f in cc) in
        some_as q.server y.server q.id y.id had.0 had.1
        (record { sent = q.link.sent_count; took = q.link.taken_count; count = q.uses; covers = own_on q.server q.id owns q.link.sent_count q.link.taken_count q.uses (had_covers (Resting q) is tells) })

    came_closed : (came : Came) → y.came ≡ came → TellsBefore s k.history k.es y came k.goes.before → (w : What) → k.goes.after ≡ Some w → IsSome w.told → CoversSome y.server y.id records'
    came_closed Had c b w after tells = had_closed b.0 b.1.0 (told_before (what_of_link (conn_link b.0)) w b.2 after tells)
    came_closed Opened c b w after tells = record { sent = 0; took = 0; count = 0; covers = own_on y.server y.id (no_exchange b.0) 0 0 0 (opened_covers c) }
    came_closed (Took place uses) c b w after tells =
        let v = b.1.2 in
        let before_is : k.goes.before ≡ Some v = b.1.5 in
        let l = is_some v.told (told_before v w before_is after tells) in
        record { sent = length l.0.sent; took = length l.0.taken; count = uses; covers = own_on y.server y.id (no_exchange b.0) (length l.0.sent) (length l.0.taken) uses (took_covers place uses c v before_is l.0 l.1) }

    -- the marks of a closing
    close_in : (w : Went) → y.went ≡ w → IsClosed w → Contains (marks_of k.es) (Close t n y.id)
    close_in Stays f c = absurd c
    close_in (Rests place uses) f c = absurd c
    close_in Ends f c =
        let m = Close t n y.id in
        subst (λ (es : List Entry). Contains es m) (sym (marks_by y.came Ends refl f)) (Contains-append_right (came_marks t n first y.id y.came) (m ∷ []) m (Contains-push [] m))
    close_in (EndsTakenBack place uses) f c =
        let m = Close t n y.id in
        let lead : List Entry = Park t n y.id place uses ∷ Take t n false place y.id uses ∷ [] in
        subst (λ (es : List Entry). Contains es m) (sym (marks_by y.came (EndsTakenBack place uses) refl f))
        (Contains-append_right (came_marks t n first y.id y.came) (lead ++ m ∷ []) m (Contains-push lead m))

    closed_now : IsClosed y.went → (table_after k.history.seen).conns y.id.0 ≡ Closed
    closed_now c = ap (λ (S : Table). S.conns y.id.0) table ∙ closed_by T k.es t n y.id sound legal (close_in y.went refl c)

    -- a link that it left was buried
    closed_link : (l : LinkState) → k.goes.gone ≡ Some l → IsClosed y.went × (k.goes.after ≡ Some (what_of_link l))
    closed_link l gone = by_went y.went refl k.goes.is
      where
        buried_is : (o : Option LinkState) → o ≡ Some l → IsBuried y o k.goes.after → k.goes.after ≡ Some (what_of_link l)
        buried_is None f b = cc
        buried_is (Some j) f b = b.1 ∙ ap (λ (z : LinkState). Some (what_of_link z)) (some_is j l f)

        by_went : (w : Went) → y.went ≡ w → TellsAfter a k.es y w k.goes.gone k.goes.after → IsClosed w × (k.goes.after ≡ Some (what_of_link l))
        by_went Stays f g_ = let no_ = sym gone ∙ g_.0 in cc
        by_went (Rests place uses) f g_ = let no_ = sym gone ∙ g_.0 in cc
        by_went Ends f g_ = (tt, buried_is k.goes.gone gone g_.1)
        by_went (EndsTakenBack place uses) f g_ = (tt, buried_is k.goes.gone gone g_.1)

    closed_over : IsClosed y.went → IsOver seats' y.server y.id
    closed_over c = record { seat = k.history; at = k.seat; closed = closed_now c }

    closed_covers : (l : LinkState) → k.goes.gone ≡ Some l → IsSome (what_of_link l).told → CoversSome y.server y.id records'
    closed_covers l gone tells = came_closed y.came refl k.goes.was (what_of_link l) (closed_link l gone).1 tells

    -- ---- it rests

    -- behind a call that leaves it with its session or closed it doesn't rest
    came_held : (came : Came) → y.came ≡ came → y.went ≡ Stays → TellsBefore s k.history k.es y came k.goes.before → ((table_after k.history.seen).conns y.id.0 ≡ HeldBy g.about.thread s.number) ⊎ ((table_after k.history.seen).conns y.id.0 ≡ HeldBy t n)
    came_held Had c w b =
        let stays = spared y.id.0 T k.es (subst (AllSpare y.id.0) (sym (marks_by Had Stays c w)) tt) in
        let held : T.conns y.id.0 ≡ HeldBy g.about.thread s.number =
        ap (λ (i : ConnId). T.conns i.0) (sym b.1.2) ∙ held_at s b.0 there b.1.0 g (ap (λ (m : ServerNo). slice_get seats m.0) b.1.1 ∙ before.1) in
        inl (ap (λ (S : Table). S.conns y.id.0) table ∙ (stays.conn ∙ held))
    came_held Opened c w b =
        inr (ap (λ (S : Table). S.conns y.id.0) table ∙ held_one T k.es (Open t n y.id) t n y.id (marks_by Opened Stays c w) (λ S u. put_same S.conns y.id.0 (HeldBy t n) y.id.0 refl))
    came_held (Took place uses) c w b =
        inr (ap (λ (S : Table). S.conns y.id.0) table ∙ held_one T k.es (Take t n first place y.id uses) t n y.id (marks_by (Took place uses) Stays c w) (λ S u. put_same S.conns y.id.0 (HeldBy t n) y.id.0 refl))

    -- the passed exchange of a connection that comes to rest
    rests_covers : (place : PlaceNo) (uses : ℕ) → y.went ≡ Rests place uses → TellsAfter a k.es y (Rests place uses) k.goes.gone k.goes.after → ExchangeGoes s a y (Rests place uses) k.goes.before served
        → (v : What) → what_of k.history.seen y.id.0 ≡ Some v → (l : LinkTold) → v.told ≡ Some l → CoversConn y.server y.id records' (length l.sent) (length l.taken) ((table_after k.history.seen).uses y.id.0)
    rests_covers place uses w is h v beside l told =
        let b = h.0 in
        let had = had_is (Exchanging b) h.1 in
        let u = is.2.0 in
        let p : Entry = Park t n y.id place uses in
        let its_park : Contains k.es (record { entry = p; what = Some u }) =
        subst (λ (z : ThreadNo). Contains k.es (record { entry = Park z n y.id place uses; what = Some u })) worker
        (subst (λ (m : SessionNo). Contains k.es (record { entry = Park a.worker m y.id place uses; what = Some u })) number is.2.2) in
        let rests = park_rests T k.es t n y.id place uses (Some u) (marks_by Had (Rests place uses) h.2 w) its_park in
        let whats : what_of k.history.seen y.id.0 ≡ Some u = ap (λ (S : Table). S.whats y.id.0) table ∙ rests.1 in
        let used : (table_after k.history.seen).uses y.id.0 ≡ uses = ap (λ (S : Table). S.uses y.id.0) table ∙ rests.2 in
        let same_ : v ≡ u = some_is v u (sym beside ∙ whats) in
        let after : k.goes.after ≡ Some v = is.2.1 ∙ ap Some (sym same_) in
        let old = had_covers (Exchanging b) h.1 (told_before (what_of_link b.link) v had.2 after (some_is_there v.told l told)) in
        let r = h.4.0 in
        let c = h.4.1 in
        let ends = passed_ends r h.4.2 c h.4.3 (λ z. subst (λ (q : Went). IsClosed q) w z) b h.1 v after l told in
        conn_as b.server y.server b.id y.id records' c.sent.to (length l.sent) c.took.to (length l.taken) (b.uses + 1) ((table_after k.history.seen).uses y.id.0)
        had.0 had.1 ends.all_sent ends.all_taken (sym h.3 ∙ sym used) (record_on b h.1 r h.4.2 c (inl h.4.3) (of_exchange r h.4.2 c h.4.3 b h.1) old)

    touched_rests : (place : PlaceNo) → (table_after k.history.seen).conns y.id.0 ≡ IdleAt place → (v : What) → what_of k.history.seen y.id.0 ≡ Some v → (l : LinkTold) → v.told ≡ Some l
        → CoversConn y.server y.id records' (length l.sent) (length l.taken) ((table_after k.history.seen).uses y.id.0)
    touched_rests place idle v beside l told = by_went y.went refl k.goes.is (exch y e)
      where
        by_went : (w : Went) → y.went ≡ w → TellsAfter a k.es y w k.goes.gone k.goes.after → ExchangeGoes s a y w k.goes.before served
            → CoversConn y.server y.id records' (length l.sent) (length l.taken) ((table_after k.history.seen).uses y.id.0)
        by_went Stays f g_ h = absurd (⊎_elim
            (λ (q : (table_after k.history.seen).conns y.id.0 ≡ HeldBy g.about.thread s.number). not_idle (table_after k.history.seen) y.id.0 place g.about.thread s.number idle q)
            (λ (q : (table_after k.history.seen).conns y.id.0 ≡ HeldBy t n). not_idle (table_after k.history.seen) y.id.0 place t n idle q)
            (came_held y.came refl f k.goes.was))
        by_went (Rests p u) f g_ h = rests_covers p u f g_ h v beside l told
        by_went Ends f g_ h = absurd (not_both (table_after k.history.seen) y.id.0 place idle (closed_now (subst (λ (q : Went). IsClosed q) (sym f) tt)))
        by_went (EndsTakenBack p u) f g_ h = absurd (not_both (table_after k.history.seen) y.id.0 place idle (closed_now (subst (λ (q : Went). IsClosed q) (sym f) tt)))

  -- ---- what sessions have

  -- the session's own connection, as it is after the call
  own_held : (d : Holding) → a.conn ≡ Some d → HeldTells d → (o : Option Touch) → x ≡ o → CoversHeld records' d
  own_held d now tells None e = by_holding d now tells
    where
      by_holding : (c : Holding) → a.conn ≡ Some c → HeldTells c → CoversHeld records' c
      by_holding (Exchanging b) f g = own_on b.server b.id (own e) b.exchange.sent_from b.exchange.taken_from b.uses (keeps.held s.number.0 s (Exchanging b) there (sym (none e).conn ∙ f) g)
      by_holding (Resting r) f g = own_on r.server r.id (own e) r.link.sent_count r.link.taken_count r.uses (keeps.held s.number.0 s (Resting r) there (sym (none e).conn ∙ f) g)
  own_held d now tells (Some y) e = touched_held y e d now tells

  -- that of another session isn't the session's
  other_apart : (m : SessionNow) (c : Holding) → session_of ss m.number.0 ≡ Some m → m.conn ≡ Some c → (a.number.0 ≡ m.number.0 → ⊥) → NotIts (conn_server c) (conn_id c)
  other_apart m c is has ne b had y e f i =
      let g = before y e in
      let own_is = had_is y e (Exchanging b) had in
      let at : slice_get seats b.server.0 ≡ Some g.0 = ap (λ (n : ServerNo). slice_get seats n.0) own_is.0 ∙ g.1 in
      let at_c : slice_get seats (conn_server c).0 ≡ Some g.0 = ap (λ (n : ServerNo). slice_get seats n.0) (sym f) ∙ at in
      let mine : (table_after g.0.seen).conns b.id.0 ≡ HeldBy g.0.about.thread s.number = held_at s (Exchanging b) there had g.0 at in
      let its_ : (table_after g.0.seen).conns (conn_id c).0 ≡ HeldBy g.0.about.thread m.number = held_at m c is has g.0 at_c in
      let both : HeldBy g.0.about.thread s.number ≡ HeldBy g.0.about.thread m.number = sym mine ∙ (ap (λ (n : ConnId). (table_after g.0.seen).conns n.0) i ∙ its_) in
      ne (no_is ∙ ap (λ (n : SessionNo). n.0) (held_same g.0.about.thread s.number m.number both))

  other_held : (m : SessionNow) (c : Holding) → session_of ss m.number.0 ≡ Some m → m.conn ≡ Some c → (a.number.0 ≡ m.number.0 → ⊥) → HeldTells c → CoversHeld records' c
  other_held m (Exchanging b) is has ne tells =
      apart_on b.server b.id (other_apart m (Exchanging b) is has ne) b.exchange.sent_from b.exchange.taken_from b.uses (keeps.held m.number.0 m (Exchanging b) is has tells)
  other_held m (Resting r) is has ne tells =
      apart_on r.server r.id (other_apart m (Resting r) is has ne) r.link.sent_count r.link.taken_count r.uses (keeps.held m.number.0 m (Resting r) is has tells)

  held_after : (j : ℕ) (m : SessionNow) (c : Holding) → session_of ss' j ≡ Some m → m.conn ≡ Some c → HeldTells c → CoversHeld records' c
  held_after j m c is has tells = dite (ℕ_discrete a.number.0 j)
      (λ (e : a.number.0 ≡ j). by_over a.over refl (sym same ∙ (ap (session_of ss') e ∙ is)))
      (λ ne.
      let was : session_of ss j ≡ Some m = sym (placed_other ss a j ne) ∙ is in
      let num : m.number.0 ≡ j = found_number ss j m was in
      other_held m c (ap (session_of ss) num ∙ was) has (λ e. ne (e ∙ num)) tells)
    where
      by_over : (b : Bool) → a.over ≡ b → (if b then None else Some a) ≡ Some m → CoversHeld records' c
      by_over true o e = cc
      by_over false o e = own_held c (ap (λ (z : SessionNow). z.conn) (some_is a m e) ∙ has) tells x refl

  -- ---- what rests

  rests_spared : (server : ServerNo) (id : ConnId) (v : What) (g : History) (es : List Note) (r : IsAtRest seats' server id v) → slice_get seats server.0 ≡ Some g → Makes g r.seat es → AllSpare id.0 (marks_of es)
      → (l : LinkTold) → v.told ≡ Some l → CoversConn server id records' (length l.sent) (length l.taken) ((table_after r.seat.seen).uses id.0)
  rests_spared server id v g es r at m spare l told =
      let T = table_after g.seen in
      let table_is = table_alone g r.seat es m (alone server.0 g at) in
      let stays = spared id.0 T es spare in
      let idle : T.conns id.0 ≡ IdleAt r.place = sym stays.conn ∙ (ap (λ (S : Table). S.conns id.0) (sym table_is) ∙ r.rests) in
      let beside : what_of g.seen id.0 ≡ Some v = sym stays.what ∙ (ap (λ (S : Table). S.whats id.0) (sym table_is) ∙ r.beside) in
      let used : T.uses id.0 ≡ (table_after r.seat.seen).uses id.0 = sym stays.uses ∙ ap (λ (S : Table). S.uses id.0) (sym table_is) in
      let old : IsAtRest seats server id v = record { seat = g; at = at; place = r.place; rests = idle; beside = beside } in
      let covers : CoversConn server id records (length l.sent) (length l.taken) (T.uses id.0) =
      subst (λ (o : Option LinkTold). IfSome o (λ z. CoversConn server id records (length z.sent) (length z.taken) (T.uses id.0))) told (keeps.rests server id v old) in
      subst (λ (j : ℕ). CoversConn server id records' (length l.sent) (length l.taken) j) used
      (apart_on server id (state_apart server id g at (λ h. not_idle T id.0 r.place g.about.thread s.number idle h)) (length l.sent) (length l.taken) (T.uses id.0) covers)

  rests_touched : (server : ServerNo) (id : ConnId) (v : What) (r : IsAtRest seats' server id v) (y : Touch) → x ≡ Some y → y.server ≡ server → y.id ≡ id
      → (l : LinkTold) → v.told ≡ Some l → CoversConn server id records' (length l.sent) (length l.taken) ((table_after r.seat.seen).uses id.0)
  rests_touched server id v r y e f i l told =
      let k = some y e in
      let is : k.history ≡ r.seat = some_is k.history r.seat (sym k.seat ∙ (ap (λ (n : ServerNo). slice_get seats' n.0) f ∙ r.at)) in
      let idle : (table_after k.history.seen).conns y.id.0 ≡ IdleAt r.place = ap (λ (n : ConnId). (table_after k.history.seen).conns n.0) i ∙ (ap (λ (h : History). (table_after h.seen).conns id.0) is ∙ r.rests) in
      let beside : what_of k.history.seen y.id.0 ≡ Some v = ap (λ (n : ConnId). what_of k.history.seen n.0) i ∙ (ap (λ (h : History). what_of h.seen id.0) is ∙ r.beside) in
      conn_as y.server server y.id id records' (length l.sent) (length l.sent) (length l.taken) (length l.taken) ((table_after k.history.seen).uses y.id.0) ((table_after r.seat.seen).uses id.0)
      f i refl refl (ap (λ (n : ConnId). (table_after k.history.seen).uses n.0) i ∙ ap (λ (h : History). (table_after h.seen).uses id.0) is)
      (touched_rests y e r.place idle v beside l told)

  rests_after : (server : ServerNo) (id : ConnId) (v : What) (r : IsAtRest seats' server id v) → IfSome v.told (λ l. CoversConn server id records' (length l.sent) (length l.taken) ((table_after r.seat.seen).uses id.0))
  rests_after server id v r = if_some v.told (λ l. CoversConn server id records' (length l.sent) (length l.taken) ((table_after r.seat.seen).uses id.0)) (λ l told. by_touch l told x refl)
    where
      back : (g : History) × (es : List Note) × (slice_get seats server.0 ≡ Some g) × Makes g r.seat es × HasMarks s.worker s.number first x (0 + server.0) es
      back = adds_back (HasMarks s.worker s.number first x) 0 seats seats' added server.0 r.seat adds r.at

      marks : marks_of back.1 ≡ marks_at s.worker s.number first x server.0
      marks = subst (λ (i : ℕ). marks_of back.1 ≡ marks_at s.worker s.number first x i) (from_zero server.0) back.4.marks

      by_touch : (l : LinkTold) → v.told ≡ Some l → (o : Option Touch) → x ≡ o → CoversConn server id records' (length l.sent) (length l.taken) ((table_after r.seat.seen).uses id.0)
      by_touch l told None e =
          rests_spared server id v back.0 back.1 r back.2 back.3 (subst (AllSpare id.0) (sym (marks ∙ ap (λ (o : Option Touch). marks_at s.worker s.number first o server.0) e)) tt) l told
      by_touch l told (Some y) e =
          let marks_y : marks_of back.1 ≡ marks_at s.worker s.number first (Some y) server.0 = marks ∙ ap (λ (o : Option Touch). marks_at s.worker s.number first o server.0) e in
          dite (ℕ_discrete y.server.0 server.0)
          (λ (f : y.server.0 ≡ server.0). dite (ℕ_discrete y.id.0 id.0)
          (λ (i : y.id.0 ≡ id.0). rests_touched server id v r y e (server_is y.server server f) (conn_is y.id id i) l told)
          (λ ne.
          rests_spared server id v back.0 back.1 r back.2 back.3
          (subst (AllSpare id.0) (sym (marks_y ∙ marks_here s.worker s.number first y server.0 f)) (touch_spares s.worker s.number first y id.0 ne)) l told))
          (λ ne. rests_spared server id v back.0 back.1 r back.2 back.3 (subst (AllSpare id.0) (sym (marks_y ∙ marks_past s.worker s.number first y server.0 ne)) tt) l told)

  -- ---- what wasn't opened, and what is closed

  fresh_after : (server : ServerNo) (id : ConnId) (h : History) → slice_get seats' server.0 ≡ Some h → (table_after h.seen).conns id.0 ≡ Unopened → CoversConn server id records' 0 0 0
  fresh_after server id h at unopened =
      let b = adds_back (HasMarks s.worker s.number first x) 0 seats seats' added server.0 h adds at in
      let T = table_after b.0.seen in
      let table_is = table_alone b.0 h b.1 b.3 (alone server.0 b.0 b.2) in
      let was : T.conns id.0 ≡ Unopened = unopened_before T b.1 id.0 (ap (λ (S : Table). S.conns id.0) (sym table_is) ∙ unopened) in
      apart_on server id (state_apart server id b.0 b.2 (λ q. not_fresh T id.0 b.0.about.thread s.number was q)) 0 0 0 (keeps.fresh server id b.0 b.2 was)

  over_stays : (server : ServerNo) (id : ConnId) → IsOver seats server id → IsOver seats' server id
  over_stays server id o =
      let b = adds_old (HasMarks s.worker s.number first x) 0 seats seats' added server.0 o.seat adds o.at in
      let one_ = alone server.0 o.seat o.at in
      record {
        seat = b.0;
        at = b.2;
        closed = ap (λ (S : Table). S.conns id.0) (table_alone o.seat b.0 b.1 b.4 one_)
            ∙ closed_along (table_after o.seat.seen) b.1 id.0 (sound_at o.seat.seen b.4.was.legal) (legal_alone o.seat b.0 b.1 b.4 one_) o.closed;
      }

  some_on : (server : ServerNo) (id : ConnId) → IsOver seats server id → CoversSome server id records → CoversSome server id records'
  some_on server id o c = record {
    sent = c.sent;
    took = c.took;
    count = c.count;
    covers = apart_on server id (state_apart server id o.seat o.at (λ q. not_closed (table_after o.seat.seen) id.0 o.seat.about.thread s.number o.closed q)) c.sent c.took c.count c.covers;
  }

  abbrev Buried : ServerNo → ConnId → LinkState → Type 0
  Buried server id l = IsOver seats' server id × (IsSome (what_of_link l).told → CoversSome server id records')

  buried_after : (server : ServerNo) (id : ConnId) (l : LinkState) → Contains graves' (grave (OfConn server id) l) → Buried server id l
  buried_after server id l c = ⊎_elim
      (λ (old : Contains graves (grave (OfConn server id) l)). let b = keeps.buried server id l old in (over_stays server id b.0, λ tells. some_on server id b.0 (b.1 tells)))
      (λ (new : (y : Touch) × (e : x ≡ Some y) × (server ≡ y.server) × (id ≡ y.id) × ((some y e).goes.gone ≡ Some l)).
      let closed = (closed_link new.0 new.1 l new.4).0 in
      subst (λ (n : ServerNo). Buried n id l) (sym new.2)
      (subst (λ (i : ConnId). Buried new.0.server i l) (sym new.3) (closed_over new.0 new.1 closed, λ tells. closed_covers new.0 new.1 l new.4 tells)))
      (new_grave server id l c)

  pub conns_go : KeepsConns ss' seats' records' graves'
  conns_go = record { held = held_after; rests = rests_after; fresh = fresh_after; buried = buried_after }
