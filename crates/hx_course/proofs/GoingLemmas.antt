-- A call of one session: each link is somewhere still, with bytes behind its bytes.
use Rattle.std.proofs.Common.{◌≡◌, ◌⊎◌, ⊎_elim, inl, inr, ℕ, zero, suc, ◌+◌, Bool, true, false, List, [], ◌∷◌, ◌++◌, refl, sym, ap, ◌∙◌, subst, arith, Option, Some, None, eq-eqb, ne_eqb}
use Rattle.std.specs.Prelude.{IfSome, ◌&&◌, Contains, slice_get, if◌then◌else◌, ◌==◌}
use Rattle.std.proofs.lemmas.List.Elements.{Contains-append_right, Contains-push}
use mathlib.Core.Logic.{dite}
use native.Mathlib.Decide.{ℕ_discrete}
use Rattle.hx_base.specs.declared.numbers.ConnId.{ConnId}
use Rattle.hx_base.specs.declared.numbers.PlaceNo.{PlaceNo}
use Rattle.hx_base.specs.declared.numbers.ServerNo.{ServerNo}
use Rattle.hx_base.specs.declared.numbers.SessionNo.{SessionNo}
use Rattle.hx_base.specs.declared.numbers.ThreadNo.{ThreadNo}
use Rattle.hx_base.specs.declared.what.What.{What}
use Rattle.hx_conn.specs.WhatTold.{what_of_link}
use Rattle.hx_link.specs.Nets.{NetState}
use Rattle.hx_link.specs.Told.{LinkState}
use Rattle.hx_pool.specs.declared.entries.Entry.{Entry}
use Rattle.hx_pool.specs.declared.entries.Entry.TheVariants.{Park, Take, Close}
use Rattle.hx_pool.specs.declared.entries.Note.{Note}
use Rattle.hx_pool.specs.History.{marks_of, table_after, what_of}
use Rattle.hx_pool.specs.SeatView.{History, Makes}
use Rattle.hx_pool.specs.Table.{Table, IdleAt}
use Rattle.hx_pool.proofs.Tables.{sound_at}
use Rattle.hx_base.specs.declared.what.LinkTold.{LinkTold}
use Rattle.hx_record.specs.Carriage.{Carriage}
use Rattle.hx_record.specs.Tiles.{is_of}
use Rattle.hx_record.specs.Truth.{RecountsBytes, IsTrueCut, IsTrueOwn}
use Rattle.hx_record.specs.declared.served.Carried.{Carried}
use Rattle.hx_record.specs.declared.served.CutCause.{CutCause}
use Rattle.hx_record.specs.declared.served.Kind.{Kind}
use Rattle.hx_record.specs.declared.served.Kind.TheVariants as kind
use Rattle.hx_record.specs.declared.served.Left.{Left}
use Rattle.hx_record.specs.declared.served.LeftCause.{LeftCause}
use Rattle.hx_record.specs.declared.served.LeftCause.TheVariants as cause
use Rattle.hx_record.specs.declared.served.Served.{Served}
use Rattle.hx_record.specs.declared.served.Told.{Told}
use Rattle.hx_record.specs.declared.served.Told.TheVariants as line
use Rattle.hx_connecting.specs.Exchanges.{IsClosed}
use Rattle.hx_connecting.specs.Ways.{IsOwn}
use Rattle.hx_session.specs.Records.{WhereTold, told_of, carriage_of, no_carriage, leaves_for, ItsExchange, EndsSession, LeftStands, Leaves, ends_after, cut_ends}
use Rattle.hx_session.specs.Telling.{KindTold, RecordsTold}
use Rattle.hx_course.specs.Lines.{served_line, left_line, lines_of}
use Rattle.hx_course.specs.Truths.{left_open, WhereBoth, IsTrueOpen, IsTrueEnded, PassedNow, CutNow, OwnNow, IsTrueNow}
use Rattle.hx_connecting.specs.Links.{NoLinkGoes, IsSameLink, GoesOn, TellsBefore, TellsAfter, IsBuried}
use Rattle.hx_connecting.specs.Sessions.{SessionNow, Holding, Exchanging, conn_id, conn_link, conn_server}
use Rattle.hx_connecting.specs.Touches.{Came, Had, Opened, Took, Went, Stays, Rests, Ends, EndsTakenBack, Touch, Adds, AddsEach, HasMarks, came_marks, went_marks, touch_marks, marks_at}
use Rattle.hx_worker.proofs.ByNumber.{placed_other, placed_same, if_going}
use Rattle.hx_worker.specs.Steps.{placed}
use Rattle.hx_worker.specs.Workers.{session_of, NumbersRise}
use Rattle.hx_course.specs.Calls.{EndsExchange, AreAlone, HadFor, TookLast, TouchGoes}
use Rattle.hx_course.specs.Graves.{Grave, OfClient, OfConn, grave}
use Rattle.hx_course.specs.Places.{ClientIs, IsHeld, IsAtRest, IsInGrave, ConnIs, BytesGrow, LinksGoOn}
use Rattle.hx_course.proofs.Numbers.{some_is, number_is}
use Rattle.hx_course.proofs.TableLemmas.{table_alone, legal_alone, AllSpare, spared, no_park, no_close, no_open, park_rests}
use Rattle.hx_course.proofs.TruthLemmas.{told_same, link_grows, passed_ended, cut_open, own_open}

-- ---- seats and entries by number

pub from_zero : (i : ℕ) → 0 + i ≡ i
from_zero i = omega arith

at_zero : (i : ℕ) → i ≡ i + 0
at_zero i = omega arith

at_next : (i k : ℕ) → (i + 1) + k ≡ i + suc k
at_next i k = omega arith

-- a seat before a call, that after it, and the entries in between
pub adds_old : (P : ℕ → List Note → Type 0) (i : ℕ) (old new : List History) (added : List (List Note)) (k : ℕ) (g : History) → AddsEach P i old new added → slice_get old k ≡ Some g
    → (h : History) × (es : List Note) × (slice_get new k ≡ Some h) × (slice_get added k ≡ Some es) × Makes g h es × P (i + k) es
adds_old P i [] [] [] k g a e = cc
adds_old P i [] [] (x ∷ added) k g a e = absurd a
adds_old P i [] (y ∷ new) added k g a e = absurd a
adds_old P i (x ∷ old) [] added k g a e = absurd a
adds_old P i (x ∷ old) (y ∷ new) [] k g a e = absurd a
adds_old P i (x ∷ old) (y ∷ new) (es ∷ added) zero g a e = let is : x ≡ g = cc in (y, es, refl, refl, subst (λ (z : History). Makes z y es) is a.0, subst (λ n. P n es) (at_zero i) a.1)
adds_old P i (x ∷ old) (y ∷ new) (es ∷ added) (suc k) g a e =
    let r = adds_old P (i + 1) old new added k g a.2 e in (r.0, r.1, r.2, r.3, r.4, subst (λ n. P n r.1) (at_next i k) r.5)

pub adds_new : (P : ℕ → List Note → Type 0) (i : ℕ) (old new : List History) (added : List (List Note)) (k : ℕ) (h : History) (es : List Note) → AddsEach P i old new added
    → slice_get new k ≡ Some h → slice_get added k ≡ Some es → (g : History) × (slice_get old k ≡ Some g) × Makes g h es × P (i + k) es
adds_new P i [] [] [] k h es a e f = cc
adds_new P i [] [] (x ∷ added) k h es a e f = absurd a
adds_new P i [] (y ∷ new) added k h es a e f = absurd a
adds_new P i (x ∷ old) [] added k h es a e f = absurd a
adds_new P i (x ∷ old) (y ∷ new) [] k h es a e f = absurd a
adds_new P i (x ∷ old) (y ∷ new) (fs ∷ added) zero h es a e f =
    let is : y ≡ h = cc in let same : fs ≡ es = cc in
    (x, refl, subst (λ (z : History). Makes x z es) is (subst (λ l. Makes x y l) same a.0), subst (λ n. P n es) (at_zero i) (subst (λ l. P i l) same a.1))
adds_new P i (x ∷ old) (y ∷ new) (fs ∷ added) (suc k) h es a e f =
    let r = adds_new P (i + 1) old new added k h es a.2 e f in (r.0, r.1, r.2, subst (λ n. P n es) (at_next i k) r.3)

-- ---- the marks of a touch

pub marks_here : (t : ThreadNo) (n : SessionNo) (first : Bool) (y : Touch) (i : ℕ) → y.server.0 ≡ i → marks_at t n first (Some y) i ≡ touch_marks t n first y
marks_here t n first y i e = ap (λ (b : Bool). if b then touch_marks t n first y else []) (eq-eqb y.server.0 i e)

pub marks_past : (t : ThreadNo) (n : SessionNo) (first : Bool) (y : Touch) (i : ℕ) → (y.server.0 ≡ i → ⊥) → marks_at t n first (Some y) i ≡ []
marks_past t n first y i ne = ap (λ (b : Bool). if b then touch_marks t n first y else []) (ne_eqb y.server.0 i ne)

spare_both : (i : ℕ) (xs ys : List Entry) → AllSpare i xs → AllSpare i ys → AllSpare i (xs ++ ys)
spare_both i [] ys a b = b
spare_both i (x ∷ xs) ys a b = (a.0, spare_both i xs ys a.1 b)

came_spares : (t : ThreadNo) (n : SessionNo) (first : Bool) (id : ConnId) (i : ℕ) (c : Came) → (id.0 ≡ i → ⊥) → AllSpare i (came_marks t n first id c)
came_spares t n first id i Had ne = tt
came_spares t n first id i Opened ne = (ne, tt)
came_spares t n first id i (Took place uses) ne = (ne, tt)

went_spares : (t : ThreadNo) (n : SessionNo) (id : ConnId) (i : ℕ) (w : Went) → (id.0 ≡ i → ⊥) → AllSpare i (went_marks t n id w)
went_spares t n id i Stays ne = tt
went_spares t n id i (Rests place uses) ne = (ne, tt)
went_spares t n id i Ends ne = (ne, tt)
went_spares t n id i (EndsTakenBack place uses) ne = (ne, (ne, (ne, tt)))

pub touch_spares : (t : ThreadNo) (n : SessionNo) (first : Bool) (y : Touch) (i : ℕ) → (y.id.0 ≡ i → ⊥) → AllSpare i (touch_marks t n first y)
touch_spares t n first y i ne = spare_both i (came_marks t n first y.id y.came) (went_marks t n y.id y.went) (came_spares t n first y.id i y.came ne) (went_spares t n y.id i y.went ne)

-- ---- small facts

pub conn_is : (a b : ConnId) → a.0 ≡ b.0 → a ≡ b
conn_is a b e = ap (λ (k : ℕ). let r : ConnId = record { 0 = k } in r) e

pub server_is : (a b : ServerNo) → a.0 ≡ b.0 → a ≡ b
server_is a b e = ap (λ (k : ℕ). let r : ServerNo = record { 0 = k } in r) e

goes_some : (v : What) (w : Option What) → GoesOn (Some v) w → (u : What) × (w ≡ Some u) × IsSameLink v u
goes_some v None g = absurd g
goes_some v (Some u) g = (u, refl, g)

pub goes_from : (o w : Option What) (v : What) → o ≡ Some v → GoesOn o w → (u : What) × (w ≡ Some u) × IsSameLink v u
goes_from o w v e g = goes_some v w (subst (λ (p : Option What). GoesOn p w) e g)

-- a session that had a connection touched that one
pub had_before : (s : SessionNow) (h : History) (es : List Note) (y : Touch) (came : Came) (w : Option What) (c : Holding) → s.conn ≡ Some c → TellsBefore s h es y came w
    → (conn_server c ≡ y.server) × (conn_id c ≡ y.id) × (w ≡ Some (what_of_link (conn_link c)))
had_before s h es y Had w c e t =
    let same : t.0 ≡ c = some_is t.0 c (sym t.1.0 ∙ e) in
    (ap conn_server (sym same) ∙ t.1.1, ap conn_id (sym same) ∙ t.1.2, t.2 ∙ ap (λ (k : Holding). Some (what_of_link (conn_link k))) same)
had_before s h es y Opened w c e t = let no = sym e ∙ t.0 in cc
had_before s h es y (Took place uses) w c e t = let no = sym e ∙ t.0 in cc

own_line : (t u : ThreadNo) (n m : SessionNo) → t ≡ u → n ≡ m → is_of t n u m ≡ true
own_line t u n m e f =
    let a : (t.0 == u.0) ≡ true = eq-eqb t.0 u.0 (ap (λ (k : ThreadNo). k.0) e) in
    let b : (n.0 == m.0) ≡ true = eq-eqb n.0 m.0 (ap (λ (k : SessionNo). k.0) f) in
    ap (λ (c : Bool). c && (n.0 == m.0)) a ∙ b

module _ (ss : List SessionNow) (last : ℕ) (s a : SessionNow) (seats seats' : List History) (added : List (List Note)) (first : Bool) (net net' : NetState) (x : Option Touch)
    (graves graves' : List Grave) (rise : NumbersRise 0 ss last) (there : session_of ss s.number.0 ≡ Some s) (worker : a.worker ≡ s.worker) (number : a.number ≡ s.number)
    (empty : a.over ≡ true → a.conn ≡ None) (adds : Adds s.worker s.number first x seats seats' added) (alone : AreAlone seats) (grows : BytesGrow (what_of_link s.client) (what_of_link a.client))
    (old_grave : (g : Grave) → Contains graves g → Contains graves' g) (client_grave : a.over ≡ true → Contains graves' (grave (OfClient a.worker a.number) a.client))
    (none : x ≡ None → NoLinkGoes s a net net')
    (some : (y : Touch) → x ≡ Some y → (k : TouchGoes s a seats seats' added net net' y) × ((l : LinkState) → k.goes.gone ≡ Some l → Contains graves' (grave (OfConn y.server y.id) l))) where
  abbrev ss' : List SessionNow
  ss' = placed ss a

  no_is : a.number.0 ≡ s.number.0
  no_is = ap (λ (k : SessionNo). k.0) number

  here : session_of ss a.number.0 ≡ Some s
  here = ap (session_of ss) no_is ∙ there

  same : session_of ss' a.number.0 ≡ if_going a
  same = placed_same 0 last ss s a rise here

  -- the session is there where it isn't over
  is_there : a.over ≡ false → session_of ss' a.number.0 ≡ Some a
  is_there on = same ∙ ap (λ (b : Bool). if b then None else Some a) on

  with_conn : (c : Holding) → a.conn ≡ Some c → a.over ≡ false
  with_conn c e = by_over a.over refl
    where
      by_over : (b : Bool) → a.over ≡ b → a.over ≡ false
      by_over true o = let no = sym e ∙ empty o in cc
      by_over false o = o

  held_now : (c : Holding) → a.conn ≡ Some c → (v : What) → v ≡ what_of_link (conn_link c) → (server : ServerNo) (id : ConnId) → conn_server c ≡ server → conn_id c ≡ id → IsHeld ss' server id v
  held_now c e v tells server id to num = record { session = a; there = is_there (with_conn c e); conn = c; has = e; to = to; number = num; tells = tells }

  -- ---- the client's link

  client_now : ClientIs ss' graves' a.worker a.number a.client
  client_now = by_over a.over refl
    where
      by_over : (b : Bool) → a.over ≡ b → ClientIs ss' graves' a.worker a.number a.client
      by_over true o = inr (client_grave o)
      by_over false o = inl (record { session = a; there = is_there o; worker = refl; link = refl })

  client_on : (t : ThreadNo) (n : SessionNo) (l : LinkState) → ClientIs ss graves t n l → (k : LinkState) × ClientIs ss' graves' t n k × BytesGrow (what_of_link l) (what_of_link k)
  client_on t n l (inr buried) = (l, inr (old_grave (grave (OfClient t n) l) buried), told_same (what_of_link l).told)
  client_on t n l (inl c) = dite (ℕ_discrete a.number.0 n.0)
      (λ (e : a.number.0 ≡ n.0).
      let is : s ≡ c.session = some_is s c.session (sym here ∙ (ap (session_of ss) e ∙ c.there)) in
      let own : a.worker ≡ t = worker ∙ (ap (λ (y : SessionNow). y.worker) is ∙ c.worker) in
      let link : s.client ≡ l = ap (λ (y : SessionNow). y.client) is ∙ c.link in (
        a.client,
        subst (λ (u : ThreadNo). ClientIs ss' graves' u n a.client) own (subst (λ (m : SessionNo). ClientIs ss' graves' a.worker m a.client) (number_is a.number n e) client_now),
        subst (λ (k : LinkState). BytesGrow (what_of_link k) (what_of_link a.client)) link grows,
      ))
      (λ ne. (l, inl (record { session = c.session; there = placed_other ss a n.0 ne ∙ c.there; worker = c.worker; link = c.link }), told_same (what_of_link l).told))

  -- ---- the touched connection

  module _ (y : Touch) (k : TouchGoes s a seats seats' added net net' y) (is : x ≡ Some y) (closes : (l : LinkState) → k.goes.gone ≡ Some l → Contains graves' (grave (OfConn y.server y.id) l)) where
    abbrev g_after : Option What
    g_after = k.goes.after

    buried_place : (gone : Option LinkState) (v u : What) → k.goes.gone ≡ gone → IsBuried y gone g_after → g_after ≡ Some u → IsInGrave graves' y.server y.id u
    buried_place None v u e b after = let no = sym after ∙ b.1 in cc
    buried_place (Some l) v u e b after = record { link = l; there = closes l e; tells = some_is u (what_of_link l) (sym after ∙ b.1) }

    -- the seat before the call, and the marks there
    before : (g : History) × (slice_get seats y.server.0 ≡ Some g) × Makes g k.history k.es × HasMarks s.worker s.number first x (0 + y.server.0) k.es
    before = adds_new (HasMarks s.worker s.number first x) 0 seats seats' added y.server.0 k.history k.es adds k.seat k.entries

    marks_are : marks_of k.es ≡ touch_marks s.worker s.number first y
    marks_are =
        subst (λ (i : ℕ). marks_of k.es ≡ marks_at s.worker s.number first x i) (from_zero y.server.0) before.3.marks
        ∙ (ap (λ (o : Option Touch). marks_at s.worker s.number first o y.server.0) is ∙ marks_here s.worker s.number first y y.server.0 refl)

    rests_place : (place : PlaceNo) (uses : ℕ) (u v : What) → y.came ≡ Had → y.went ≡ Rests place uses → g_after ≡ Some u → g_after ≡ Some v
        → Contains k.es (record { entry = Park a.worker a.number y.id place uses; what = Some v }) → IsAtRest seats' y.server y.id u
    rests_place place uses u v came went after is_v has =
        let t = s.worker in let n = s.number in
        let marks : marks_of k.es ≡ Park t n y.id place uses ∷ [] =
        marks_are ∙ (ap (λ (c : Came). came_marks t n first y.id c ++ went_marks t n y.id y.went) came ∙ ap (λ (w : Went). went_marks t n y.id w) went) in
        let its : Contains k.es (record { entry = Park t n y.id place uses; what = Some v }) =
        subst (λ (w : ThreadNo). Contains k.es (record { entry = Park w n y.id place uses; what = Some v })) worker
        (subst (λ (m : SessionNo). Contains k.es (record { entry = Park a.worker m y.id place uses; what = Some v })) number has) in
        let g = before.0 in
        let one = alone y.server.0 g before.1 in
        let T = table_after g.seen in
        let rests = park_rests T k.es t n y.id place uses (Some v) marks its in
        let table = table_alone g k.history k.es before.2 one in record {
          seat = k.history;
          at = k.seat;
          place = place;
          rests = ap (λ (S : Table). S.conns y.id.0) table ∙ rests.0;
          beside = ap (λ (S : Table). S.whats y.id.0) table ∙ (rests.1 ∙ (sym is_v ∙ after));
        }

    place_of : (w : Went) → y.went ≡ w → HadFor w y.came → TellsAfter a k.es y w k.goes.gone g_after → (u : What) → g_after ≡ Some u → ConnIs ss' seats' graves' y.server y.id u
    place_of Stays e had t u after = inl (held_now t.1.0 t.1.1.0 u (some_is u (what_of_link (conn_link t.1.0)) (sym after ∙ t.1.2)) y.server y.id t.1.1.1 t.1.1.2)
    place_of (Rests place uses) e had t u after = inr (inl (rests_place place uses u t.2.0 had e after t.2.1 t.2.2))
    place_of Ends e had t u after = inr (inr (buried_place k.goes.gone u u refl t.1 after))
    place_of (EndsTakenBack place uses) e had t u after = inr (inr (buried_place k.goes.gone u u refl t.1 after))

    -- where it is after the call, with bytes behind those of before
    touched_on : (v : What) → k.goes.before ≡ Some v → (u : What) × ConnIs ss' seats' graves' y.server y.id u × BytesGrow v u × (g_after ≡ Some u)
    touched_on v e =
        let r = goes_from k.goes.before g_after v e k.goes.same in
        (r.0, place_of y.went refl k.had k.goes.is r.0 r.1, link_grows v r.0 r.2, r.1)

    -- a connection that rests there and has its number was taken
    taken_on : (g h : History) (es : List Note) (v : What) (place : PlaceNo) (came : Came) (went : Went) → y.came ≡ came → y.went ≡ went → slice_get seats y.server.0 ≡ Some g
        → slice_get seats' y.server.0 ≡ Some h → Makes g h es → marks_of es ≡ came_marks s.worker s.number first y.id came ++ went_marks s.worker s.number y.id went
        → (table_after g.seen).conns y.id.0 ≡ IdleAt place → what_of g.seen y.id.0 ≡ Some v → HadFor went came → TookLast seats y.server y.id came k.goes.before
        → (u : What) × ConnIs ss' seats' graves' y.server y.id u × BytesGrow v u
    taken_on g h es v place Had Stays ce we at now m marks idle beside had took =
        let one = alone y.server.0 g at in
        let table = table_alone g h es m one in
        let stays = spared y.id.0 (table_after g.seen) es (subst (AllSpare y.id.0) (sym marks) tt) in (
          v,
          inr (inl (record {
            seat = h;
            at = now;
            place = place;
            rests = ap (λ (S : Table). S.conns y.id.0) table ∙ (stays.conn ∙ idle);
            beside = ap (λ (S : Table). S.whats y.id.0) table ∙ (stays.what ∙ beside);
          })),
          told_same v.told,
        )
    taken_on g h es v place Had (Rests p n) ce we at now m marks idle beside had took =
        absurd (no_park (table_after g.seen) es s.worker s.number y.id p place n [] (sound_at g.seen m.was.legal) (legal_alone g h es m (alone y.server.0 g at)) marks idle)
    taken_on g h es v place Had Ends ce we at now m marks idle beside had took =
        absurd (no_close (table_after g.seen) es s.worker s.number y.id place [] (sound_at g.seen m.was.legal) (legal_alone g h es m (alone y.server.0 g at)) marks idle)
    taken_on g h es v place Had (EndsTakenBack p n) ce we at now m marks idle beside had took =
        absurd (no_park (table_after g.seen) es s.worker s.number y.id p place n (Take s.worker s.number false p y.id n ∷ Close s.worker s.number y.id ∷ []) (sound_at g.seen m.was.legal)
        (legal_alone g h es m (alone y.server.0 g at)) marks idle)
    taken_on g h es v place Opened w ce we at now m marks idle beside had took =
        absurd (no_open (table_after g.seen) es s.worker s.number y.id place (went_marks s.worker s.number y.id w) (sound_at g.seen m.was.legal) (legal_alone g h es m (alone y.server.0 g at)) marks idle)
    taken_on g h es v place (Took p n) w ce we at now m marks idle beside had took =
        let r = touched_on v (took g at ∙ beside) in (r.0, r.1, r.2)

  -- ---- each connection

  module _ (server : ServerNo) (id : ConnId) (v : What) where
    abbrev Goal : Type 0
    Goal = (u : What) × ConnIs ss' seats' graves' server id u × BytesGrow v u

    other_goal : (y : Touch) → y.server ≡ server → y.id ≡ id → (u : What) × ConnIs ss' seats' graves' y.server y.id u × BytesGrow v u → Goal
    other_goal y e f r = (r.0, subst (λ (k : ServerNo). ConnIs ss' seats' graves' k id r.0) e (subst (λ (i : ConnId). ConnIs ss' seats' graves' y.server i r.0) f r.1), r.2)

    -- the session's own connection
    held_by_it : (c : Holding) → s.conn ≡ Some c → conn_server c ≡ server → conn_id c ≡ id → v ≡ what_of_link (conn_link c) → (o : Option Touch) → x ≡ o → Goal
    held_by_it c e to num tells None is = (v, inl (held_now c ((none is).conn ∙ e) v tells server id to num), told_same v.told)
    held_by_it c e to num tells (Some y) is =
        let k = (some y is).0 in
        let b = had_before s k.history k.es y y.came k.goes.before c e k.goes.was in
        let r = touched_on y k is (some y is).1 v (b.2 ∙ ap Some (sym tells)) in
        other_goal y (sym b.0 ∙ to) (sym b.1 ∙ num) (r.0, r.1, r.2)

    -- a session's connection
    held_on : IsHeld ss server id v → Goal
    held_on h = dite (ℕ_discrete a.number.0 h.session.number.0)
        (λ (e : a.number.0 ≡ h.session.number.0).
        let is : s ≡ h.session = some_is s h.session (sym here ∙ (ap (session_of ss) e ∙ h.there)) in
        held_by_it h.conn (ap (λ (y : SessionNow). y.conn) is ∙ h.has) h.to h.number h.tells x refl)
        (λ ne.
        (v, inl (record { session = h.session; there = placed_other ss a h.session.number.0 ne ∙ h.there; conn = h.conn; has = h.has; to = h.to; number = h.number; tells = h.tells }), told_same v.told))

    -- one that rests, where the call's marks spare it
    left_at : (r : IsAtRest seats server id v) (h : History) (es : List Note) → slice_get seats' server.0 ≡ Some h → Makes r.seat h es → AllSpare id.0 (marks_of es) → Goal
    left_at r h es now m spare =
        let table = table_alone r.seat h es m (alone server.0 r.seat r.at) in
        let stays = spared id.0 (table_after r.seat.seen) es spare in (
          v,
          inr (inl (record {
            seat = h;
            at = now;
            place = r.place;
            rests = ap (λ (S : Table). S.conns id.0) table ∙ (stays.conn ∙ r.rests);
            beside = ap (λ (S : Table). S.whats id.0) table ∙ (stays.what ∙ r.beside);
          })),
          told_same v.told,
        )

    at_rest_by : (r : IsAtRest seats server id v) (h : History) (es : List Note) → slice_get seats' server.0 ≡ Some h → Makes r.seat h es → (o : Option Touch) → x ≡ o
        → marks_of es ≡ marks_at s.worker s.number first o server.0 → Goal
    at_rest_by r h es now m None is marks = left_at r h es now m (subst (AllSpare id.0) (sym marks) tt)
    at_rest_by r h es now m (Some y) is marks = dite (ℕ_discrete y.server.0 server.0)
        (λ (e : y.server.0 ≡ server.0).
        let touch : marks_of es ≡ touch_marks s.worker s.number first y = marks ∙ marks_here s.worker s.number first y server.0 e in
        dite (ℕ_discrete y.id.0 id.0)
        (λ (f : y.id.0 ≡ id.0).
        let k = (some y is).0 in
        other_goal y (server_is y.server server e) (conn_is y.id id f)
        (taken_on y k is (some y is).1 r.seat h es v r.place y.came y.went refl refl (ap (slice_get seats) e ∙ r.at) (ap (slice_get seats') e ∙ now) m touch
        (ap (table_after r.seat.seen).conns f ∙ r.rests) (ap (what_of r.seat.seen) f ∙ r.beside) k.had k.took))
        (λ ne. left_at r h es now m (subst (AllSpare id.0) (sym touch) (touch_spares s.worker s.number first y id.0 ne))))
        (λ ne. left_at r h es now m (subst (AllSpare id.0) (sym (marks ∙ marks_past s.worker s.number first y server.0 ne)) tt))

    at_rest_on : IsAtRest seats server id v → Goal
    at_rest_on r =
        let b = adds_old (HasMarks s.worker s.number first x) 0 seats seats' added server.0 r.seat adds r.at in
        at_rest_by r b.0 b.1 b.2 b.4 x refl (subst (λ (i : ℕ). marks_of b.1 ≡ marks_at s.worker s.number first x i) (from_zero server.0) b.5.marks)

    conn_on : ConnIs ss seats graves server id v → Goal
    conn_on (inl h) = held_on h
    conn_on (inr (inl r)) = at_rest_on r
    conn_on (inr (inr g)) = (v, inr (inr (record { link = g.link; there = old_grave (grave (OfConn server id) g.link) g.there; tells = g.tells })), told_same v.told)

  -- a connection that was touched is somewhere, where its link is told of
  pub touched_place : (y : Touch) (is : x ≡ Some y) (v : What) → (some y is).0.goes.after ≡ Some v → ConnIs ss' seats' graves' y.server y.id v
  touched_place y is v after = place_of y (some y is).0 is (some y is).1 y.went refl (some y is).0.had (some y is).0.goes.is v after

  pub links_on : LinksGoOn ss ss' seats seats' graves graves'
  links_on = record { clients = client_on; conns = conn_on; stay = old_grave }

  -- ---- the record that the call gives

  -- where the touched connection was closed its link is buried
  closed_place : (y : Touch) (k : TouchGoes s a seats seats' added net net' y) (is : x ≡ Some y) (closes : (l : LinkState) → k.goes.gone ≡ Some l → Contains graves' (grave (OfConn y.server y.id) l))
      (w : Went) → IsClosed w → TellsAfter a k.es y w k.goes.gone k.goes.after → (u : What) → k.goes.after ≡ Some u → IsInGrave graves' y.server y.id u
  closed_place y k is closes Stays c t u after = absurd c
  closed_place y k is closes (Rests place uses) c t u after = absurd c
  closed_place y k is closes Ends c t u after = buried_place y k is closes k.goes.gone u u refl t.1 after
  closed_place y k is closes (EndsTakenBack place uses) c t u after = buried_place y k is closes k.goes.gone u u refl t.1 after

  module _ (records : List Told) (conn : Option What) (left : Option Left) (r : Served) (told : RecordsTold s a conn left (Some r)) (leaves : Leaves a left)
      (own : x ≡ None → IsOwn r.kind) (conn_after : (y : Touch) (is : x ≡ Some y) → conn ≡ (some y is).0.goes.after) (ends : (y : Touch) → x ≡ Some y → EndsExchange y.went a.client conn r r.kind) where
    abbrev lines : List Told
    lines = lines_of (Some r) left

    abbrev why : LeftCause
    why = leaves_for left

    r_worker : a.worker ≡ r.worker
    r_worker = worker ∙ sym told.worker

    r_session : a.number ≡ r.session
    r_session = number ∙ sym told.session

    of_client : ClientIs ss' graves' r.worker r.session a.client
    of_client = subst (λ (t : ThreadNo). ClientIs ss' graves' t r.session a.client) r_worker (subst (λ (n : SessionNo). ClientIs ss' graves' a.worker n a.client) r_session client_now)

    of_grave : a.over ≡ true → Contains graves' (grave (OfClient r.worker r.session) a.client)
    of_grave over = subst (λ (t : ThreadNo). Contains graves' (grave (OfClient t r.session) a.client)) r_worker
        (subst (λ (n : SessionNo). Contains graves' (grave (OfClient a.worker n) a.client)) r_session (client_grave over))

    -- the connection of the record's exchange, and where its link is
    record ItsConn (c : Carried) : Type 0 where
      y : Touch
      is : x ≡ Some y
      u : What
      after : conn ≡ Some u
      place : ConnIs ss' seats' graves' c.server c.id u
      closed : IsClosed y.went → IsInGrave graves' c.server c.id u

    its_conn : (c : Carried) → ItsExchange s c → (IsOwn r.kind → ⊥) → ItsConn c
    its_conn c its not_own = by_touch x refl
      where
        by_touch : (o : Option Touch) → x ≡ o → ItsConn c
        by_touch None e = absurd (not_own (own e))
        by_touch (Some y) e =
            let k = (some y e).0 in
            let closes = (some y e).1 in
            let b = had_before s k.history k.es y y.came k.goes.before (Exchanging its.0) its.1 k.goes.was in
            let t = touched_on y k e closes (what_of_link its.0.link) b.2 in
            let server : y.server ≡ c.server = sym b.0 ∙ sym its.2.server in
            let id : y.id ≡ c.id = sym b.1 ∙ sym its.2.id in record {
              y = y;
              is = e;
              u = t.0;
              after = conn_after y e ∙ t.3;
              place = subst (λ (n : ServerNo). ConnIs ss' seats' graves' n c.id t.0) server (subst (λ (i : ConnId). ConnIs ss' seats' graves' y.server i t.0) id t.1);
              closed = λ w.
                  subst (λ (n : ServerNo). IsInGrave graves' n c.id t.0) server
                  (subst (λ (i : ConnId). IsInGrave graves' y.server i t.0) id (closed_place y k e closes y.went w k.goes.is t.0 t.3));
            }

    -- what was said of the bytes after the call
    both_told : (u : What) (P : LinkTold → LinkTold → Type 0) → conn ≡ Some u
        → WhereTold (what_of_link a.client).told (λ v. WhereTold (told_of conn) (λ w. RecountsBytes r.kind r v w why))
        → ((v w : LinkTold) → RecountsBytes r.kind r (carriage_of v) (carriage_of w) why → P v w) → WhereBoth a.client u P
    both_told u P e t f = by_told (what_of_link a.client).told u.told
        (subst (λ (o : Option What). WhereTold (what_of_link a.client).told (λ v. WhereTold (told_of o) (λ w. RecountsBytes r.kind r v w why))) e t)
      where
        by_told : (o p : Option LinkTold) → WhereTold o (λ v. WhereTold p (λ w. RecountsBytes r.kind r v w why)) → IfSome o (λ v. IfSome p (λ w. P v w))
        by_told None p q = tt
        by_told (Some v) None q = tt
        by_told (Some v) (Some w) q = f v w q

    as_kind : (k : Kind) → r.kind ≡ k → (v w : Carriage) → RecountsBytes r.kind r v w why → RecountsBytes k r v w why
    as_kind k e v w t = subst (λ (q : Kind). RecountsBytes q r v w why) e t

    not_own : (k : Kind) → r.kind ≡ k → (IsOwn k → ⊥) → IsOwn r.kind → ⊥
    not_own k e f o = f (subst (λ (q : Kind). IsOwn q) e o)

    -- a record that ends its session comes with the Left
    leaves_over : (o : Option Left) → left ≡ o → (w : LeftCause) → EndsSession (Some w) o → (l : Left) × (left ≡ Some l) × LeftStands a l
    leaves_over o e w k = (k.0, e ∙ k.1, subst (λ (q : Option Left). Leaves a q) (e ∙ k.1) leaves)

    ends_with : (k : Kind) → r.kind ≡ k → (w : LeftCause) → ends_after k ≡ Some w → (l : Left) × (left ≡ Some l) × LeftStands a l
    ends_with k e w f = leaves_over left refl w (subst (λ (o : Option LeftCause). EndsSession o left) (ap ends_after e ∙ f) told.ends)

    passed_now : (c : Carried) → r.kind ≡ kind.Passed c → ItsExchange s c → WhereTold (what_of_link a.client).told (λ v. WhereTold (told_of conn) (λ w. RecountsBytes r.kind r v w why))
        → PassedNow ss' seats' graves' r c
    passed_now c e its t =
        let i = its_conn c its (not_own (kind.Passed c) e (λ o. o)) in
        let end : IsClosed i.y.went ⊎ ((v : What) × (conn ≡ Some v) × WhereBoth a.client v (IsTrueOpen r c)) = subst (λ (q : Kind). EndsExchange i.y.went a.client conn r q) e (ends i.y i.is) in record {
          client = a.client;
          of_client = of_client;
          conn = i.u;
          stands = ⊎_elim
              (λ (w : IsClosed i.y.went). inr (i.closed w, both_told i.u (IsTrueEnded r c) i.after t (λ v z q. passed_ended r c v z (as_kind (kind.Passed c) e (carriage_of v) (carriage_of z) q))))
              (λ (o : (v : What) × (conn ≡ Some v) × WhereBoth a.client v (IsTrueOpen r c)).
              let same : o.0 ≡ i.u = some_is o.0 i.u (sym o.1 ∙ i.after) in
              inl (i.place, subst (λ (v : What). WhereBoth a.client v (IsTrueOpen r c)) same o.2))
              end;
        }

    cut_now : (c : Carried) (w : CutCause) → r.kind ≡ kind.Cut c w → ItsExchange s c → WhereTold (what_of_link a.client).told (λ v. WhereTold (told_of conn) (λ z. RecountsBytes r.kind r v z why))
        → CutNow graves' r c w
    cut_now c w e its t =
        let i = its_conn c its (not_own (kind.Cut c w) e (λ o. o)) in
        let end : IsClosed i.y.went = subst (λ (q : Kind). EndsExchange i.y.went a.client conn r q) e (ends i.y i.is) in
        let l = ends_with (kind.Cut c w) e (cut_ends w) refl in record {
          client = a.client;
          of_client = of_grave l.2.over;
          conn = i.u;
          of_conn = i.closed end;
          is_true = both_told i.u (λ v z. IsTrueCut r c w (left_open v) (carriage_of z)) i.after t (λ v z q. cut_open r c w v z (as_kind (kind.Cut c w) e (carriage_of v) (carriage_of z) q));
        }

    own_now : (status : ℕ) → r.kind ≡ kind.Own status → WhereTold (what_of_link a.client).told (λ v. RecountsBytes r.kind r v no_carriage why) → OwnNow (records ++ lines) graves' r status
    own_now status e t =
        let l = ends_with (kind.Own status) e cause.Own refl in
        let cause_is : why ≡ l.0.cause = ap leaves_for l.1 in
        let here : Contains lines (line.Left l.0) = Contains-append_right (served_line (Some r)) (left_line left) (line.Left l.0) (subst (λ (o : Option Left). Contains (left_line o) (line.Left l.0)) (sym l.1) (Contains-push [] (line.Left l.0))) in record {
          client = a.client;
          of_client = of_grave l.2.over;
          left = l.0;
          left_told = Contains-append_right records lines (line.Left l.0) here;
          its_left = own_line r.worker l.0.worker r.session l.0.session (told.worker ∙ (sym worker ∙ sym l.2.worker)) (told.session ∙ (sym number ∙ sym l.2.session));
          is_true = by_told (what_of_link a.client).told t l.0.cause cause_is;
        }
      where
        by_told : (o : Option LinkTold) → WhereTold o (λ v. RecountsBytes r.kind r v no_carriage why) → (w : LeftCause) → why ≡ w → IfSome o (λ v. IsTrueOwn r status (left_open v) w)
        by_told None q w f = tt
        by_told (Some v) q w f =
            own_open r status v w (subst (λ (z : LeftCause). IsTrueOwn r status (carriage_of v) z) f (as_kind (kind.Own status) e (carriage_of v) no_carriage q))

    kind_now : (k : Kind) → r.kind ≡ k → KindTold s a conn why r k → IsTrueNow ss' seats' (records ++ lines) graves' r k
    kind_now (kind.Passed c) e t = passed_now c e t.0 t.1
    kind_now (kind.Cut c w) e t = cut_now c w e t.0 t.1
    kind_now (kind.Own status) e t = own_now status e t.1

    pub record_now : IsTrueNow ss' seats' (records ++ lines) graves' r r.kind
    record_now = kind_now r.kind refl told.kind
