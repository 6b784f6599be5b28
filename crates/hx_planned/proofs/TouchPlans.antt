-- A call of one session: the link of each client and of each connection follows its plan behind it, and what is left is the rest of
-- the plans.
use Rattle.std.proofs.Common.{◌≡◌, ◌⊎◌, ⊎_elim, inl, inr, ℕ, suc, ◌+◌, Bool, true, false, not, cond, List, [], ◌∷◌, ◌++◌, refl, sym, ap, ◌∙◌, subst, arith, Option, Some, None}
use Rattle.std.specs.Prelude.{IfSome, Contains, slice_get, ◌-◌, ◌≤◌}
use Rattle.std.proofs.lemmas.List.Elements.{Contains-append_right, Contains-push}
use mathlib.Core.Logic.{dite}
use native.Mathlib.Decide.{ℕ_discrete}
use Rattle.hx_base.specs.Counts.{Rose}
use Rattle.hx_base.specs.declared.numbers.ConnId.{ConnId}
use Rattle.hx_base.specs.declared.numbers.PlaceNo.{PlaceNo}
use Rattle.hx_base.specs.declared.numbers.ServerNo.{ServerNo}
use Rattle.hx_base.specs.declared.numbers.SessionNo.{SessionNo}
use Rattle.hx_base.specs.declared.numbers.ThreadNo.{ThreadNo}
use Rattle.hx_base.specs.declared.plan.Plan.{Plan}
use Rattle.hx_base.specs.declared.what.What.{What}
use Rattle.hx_conn.specs.WhatTold.{what_of_link}
use Rattle.hx_link.specs.Courses.{Course, next_plan, without_next, refuses}
use Rattle.hx_link.specs.Nets.{DialTold, NetState, told_dial}
use Rattle.hx_link.specs.Told.{LinkState}
use Rattle.hx_pool.specs.declared.entries.Entry.{Entry}
use Rattle.hx_pool.specs.declared.entries.Entry.TheVariants.{Open, Park, Take, Close}
use Rattle.hx_pool.specs.declared.entries.Note.{Note}
use Rattle.hx_pool.specs.History.{marks_of, table_from, table_after, what_of}
use Rattle.hx_pool.specs.SeatView.{History, Makes}
use Rattle.hx_pool.specs.Table.{Table, HeldBy, IdleAt, Closed, face_of, after_entry}
use Rattle.hx_pool.proofs.Tables.{put_same, sound_at}
use Rattle.hx_connecting.specs.Links.{NoLinkGoes, IsSameLink, LinkGoes, TellsBefore, TellsAfter, IsBuried, DialsFor, DialFollows, LeavesPlans, CourseStays, plans_of}
use Rattle.hx_connecting.specs.Sessions.{IsSomeAnd, SessionNow, Holding, conn_id, conn_link, conn_server}
use Rattle.hx_connecting.specs.Touches.{Came, Had, Opened, Took, Went, Stays, Rests, Ends, EndsTakenBack, Touch, Adds, HasMarks, came_marks, went_marks, touch_marks, marks_at}
use Rattle.hx_worker.proofs.ByNumber.{placed_other, placed_same, if_going}
use Rattle.hx_worker.specs.Steps.{placed}
use Rattle.hx_worker.specs.Workers.{session_of, NumbersRise}
use Rattle.hx_course.specs.Calls.{AreAlone, HadFor}
use Rattle.hx_course.specs.Graves.{Grave, OfClient, OfConn, grave}
use Rattle.hx_course.specs.Places.{ClientIs, IsHeld, IsAtRest, IsInGrave, ConnIs}
use Rattle.hx_course.proofs.ConnLemmas.{adds_back}
use Rattle.hx_course.proofs.GoingLemmas.{adds_new, from_zero, marks_here, marks_past, touch_spares, conn_is, server_is, goes_from}
use Rattle.hx_course.proofs.Numbers.{some_is, number_is}
use Rattle.hx_course.proofs.TableLemmas.{one_in, table_alone, legal_alone, AllSpare, spared, NoParks, what_before, first_needs, park_rests, closed_by, held_one}
use Rattle.hx_planned.specs.Plans.{nth_plan, FollowsNumber, FollowsId, FollowsDial, ClientsFollow, ConnsFollow, DialsFollow, LeavesRest}
use Rattle.hx_planned.proofs.DialPlans.{dials_more, dials_none}
use Rattle.hx_planned.proofs.Opens.{opens, next_along, next_low, open_next, came_opens, touch_opens}
use Rattle.hx_planned.proofs.PlanLists.{next_first, nth_behind, nth_other}

-- the touched connection: its server's seat behind the call, the call's entries there, and the way of its link
pub record OneGoes (s a : SessionNow) (seats' : List History) (added : List (List Note)) (net net' : NetState) (y : Touch) : Type 0 where
  pub history : History
  pub es : List Note
  pub seat : slice_get seats' y.server.0 ≡ Some history
  pub entries : slice_get added y.server.0 ≡ Some es
  pub goes : LinkGoes s a history es net net' y
  pub had : HadFor y.went y.came

-- ---- small facts

-- a link that stays the same one follows what it followed
follow_same : (plans : List Plan) (server : ServerNo) (id : ConnId) (u v : What) → FollowsId plans server id u.plan → IsSameLink u v → FollowsId plans server id v.plan
follow_same plans server id u v f same = record { low = f.low; plan = (f.plan.0, f.plan.1, same.plan ∙ f.plan.2) }

follow_move : (plans : List Plan) (server other : ServerNo) (id number : ConnId) (own : Option Plan) → other ≡ server → number ≡ id → FollowsId plans other number own → FollowsId plans server id own
follow_move plans server other id number own e f k = subst (λ (z : ServerNo). FollowsId plans z id own) e (subst (λ (i : ConnId). FollowsId plans other i own) f k)

-- a session that is found behind its call is the one that goes on
going_is : (b : Bool) (a m : SessionNow) → cond b None (Some a) ≡ Some m → a ≡ m
going_is true a m e = cc
going_is false a m e = some_is a m e

-- nothing is parked where a connection was taken
took_parks : (t : ThreadNo) (n : SessionNo) (first : Bool) (id : ConnId) (w : Went) (place : PlaceNo) (uses : ℕ) → HadFor w (Took place uses)
    → NoParks (Take t n first place id uses ∷ went_marks t n id w)
took_parks t n first id Stays place uses h = (tt, tt)
took_parks t n first id (Rests p u) place uses h = let no : Took place uses ≡ Had = h in cc
took_parks t n first id Ends place uses h = (tt, (tt, tt))
took_parks t n first id (EndsTakenBack p u) place uses h = let no : Took place uses ≡ Had = h in cc

-- a session that has a connection behind the call touched that one
conn_after : (a : SessionNow) (es : List Note) (y : Touch) (w : Went) (link : Option LinkState) (after : Option What) (c : Holding) → a.conn ≡ Some c → TellsAfter a es y w link after
    → (conn_server c ≡ y.server) × (conn_id c ≡ y.id) × (after ≡ Some (what_of_link (conn_link c)))
conn_after a es y Stays link after c e t =
    let same : t.1.0 ≡ c = some_is t.1.0 c (sym t.1.1.0 ∙ e) in
    (ap conn_server (sym same) ∙ t.1.1.1, ap conn_id (sym same) ∙ t.1.1.2, t.1.2 ∙ ap (λ (k : Holding). Some (what_of_link (conn_link k))) same)
conn_after a es y (Rests place uses) link after c e t = let no = sym e ∙ t.1 in cc
conn_after a es y Ends link after c e t = let no = sym e ∙ t.0 in cc
conn_after a es y (EndsTakenBack place uses) link after c e t = let no = sym e ∙ t.0 in cc

buried_after : (y : Touch) (link : Option LinkState) (after : Option What) (l : LinkState) → IsBuried y link after → link ≡ Some l → after ≡ Some (what_of_link l)
buried_after y None after l b e = cc
buried_after y (Some j) after l b e = b.1 ∙ ap (λ (k : LinkState). Some (what_of_link k)) (some_is j l e)

-- a link that was buried told what it tells behind the call
gone_after : (a : SessionNow) (es : List Note) (y : Touch) (w : Went) (link : Option LinkState) (after : Option What) (l : LinkState) → TellsAfter a es y w link after → link ≡ Some l
    → after ≡ Some (what_of_link l)
gone_after a es y Stays link after l t e = let no = sym e ∙ t.0 in cc
gone_after a es y (Rests place uses) link after l t e = let no = sym e ∙ t.0 in cc
gone_after a es y Ends link after l t e = buried_after y link after l t.1 e
gone_after a es y (EndsTakenBack place uses) link after l t e = buried_after y link after l t.1 e

idle_not_held : (S : Table) (i : ℕ) (place : PlaceNo) (t : ThreadNo) (n : SessionNo) → S.conns i ≡ IdleAt place → S.conns i ≡ HeldBy t n → ⊥
idle_not_held S i place t n a b = let e = sym a ∙ b in cc

idle_not_closed : (S : Table) (i : ℕ) (place : PlaceNo) → S.conns i ≡ IdleAt place → S.conns i ≡ Closed → ⊥
idle_not_closed S i place a b = let e = sym a ∙ b in cc

-- ---- clients

pub clients_go : (came : List Plan) (ss : List SessionNow) (last : ℕ) (s a : SessionNow) (graves graves' : List Grave) (t : ThreadNo) → NumbersRise 0 ss last → session_of ss s.number.0 ≡ Some s
    → a.worker ≡ s.worker → a.number ≡ s.number → a.client.plan ≡ s.client.plan → s.worker ≡ t
    → ((n : SessionNo) (l : LinkState) → Contains graves' (grave (OfClient t n) l) → Contains graves (grave (OfClient t n) l) ⊎ ((n ≡ a.number) × (l ≡ a.client)))
    → ClientsFollow came ss graves t → ClientsFollow came (placed ss a) graves' t
clients_go came ss last s a graves graves' t rise there worker number plan its grave_from follow n l c = by_place c
  where
    here : session_of ss a.number.0 ≡ Some s
    here = ap (λ (m : SessionNo). session_of ss m.0) number ∙ there

    own : n ≡ a.number → l ≡ a.client → FollowsNumber came n l.plan
    own e f =
        let no : n ≡ s.number = e ∙ number in
        let k = follow n s.client (inl (record { session = s; there = ap (λ (m : SessionNo). session_of ss m.0) no ∙ there; worker = its; link = refl })) in
        record { low = k.low; plan = (k.plan.0, k.plan.1, ap (λ (j : LinkState). j.plan) f ∙ (plan ∙ k.plan.2)) }

    by_place : ClientIs (placed ss a) graves' t n l → FollowsNumber came n l.plan
    by_place (inl k) = dite (ℕ_discrete a.number.0 n.0)
        (λ (e : a.number.0 ≡ n.0).
        let going : if_going a ≡ Some k.session = sym (placed_same 0 last ss s a rise here) ∙ (ap (session_of (placed ss a)) e ∙ k.there) in
        let same : a ≡ k.session = going_is a.over a k.session going in
        own (sym (number_is a.number n e)) (sym (ap (λ (m : SessionNow). m.client) same ∙ k.link)))
        (λ ne. follow n l (inl (record { session = k.session; there = sym (placed_other ss a n.0 ne) ∙ k.there; worker = k.worker; link = k.link })))
    by_place (inr g) = ⊎_elim (λ (old : Contains graves (grave (OfClient t n) l)). follow n l (inr old)) (λ (new : (n ≡ a.number) × (l ≡ a.client)). own new.0 new.1) (grave_from n l g)

-- ---- connections

module _ (plans : List Plan) (ss : List SessionNow) (last : ℕ) (s a : SessionNow) (seats seats' : List History) (added : List (List Note)) (first : Bool) (net net' : NetState) (x : Option Touch)
    (gone : Option LinkState) (graves graves' : List Grave) (rise : NumbersRise 0 ss last) (there : session_of ss s.number.0 ≡ Some s) (worker : a.worker ≡ s.worker) (number : a.number ≡ s.number)
    (adds : Adds s.worker s.number first x seats seats' added) (alone : AreAlone seats)
    (none : x ≡ None → NoLinkGoes s a net net') (some : (y : Touch) → x ≡ Some y → (k : OneGoes s a seats' added net net' y) × (gone ≡ k.goes.gone))
    (grave_from : (server : ServerNo) (id : ConnId) (l : LinkState) → Contains graves' (grave (OfConn server id) l)
    → Contains graves (grave (OfConn server id) l) ⊎ ((y : Touch) × (x ≡ Some y) × (server ≡ y.server) × (id ≡ y.id) × (gone ≡ Some l)))
    (follow : ConnsFollow plans ss seats graves) (c : Course) (told : net.course ≡ Some c) (rest : LeavesRest plans seats c.plans) where
  abbrev ss' : List SessionNow
  ss' = placed ss a

  module _ (y : Touch) (is : x ≡ Some y) (k : OneGoes s a seats' added net net' y) where
    -- the seat before the call, and the marks there
    before : (g : History) × (slice_get seats y.server.0 ≡ Some g) × Makes g k.history k.es × HasMarks s.worker s.number first x (0 + y.server.0) k.es
    before = adds_new (HasMarks s.worker s.number first x) 0 seats seats' added y.server.0 k.history k.es adds k.seat k.entries

    marks_are : marks_of k.es ≡ touch_marks s.worker s.number first y
    marks_are =
        subst (λ (i : ℕ). marks_of k.es ≡ marks_at s.worker s.number first x i) (from_zero y.server.0) before.3.marks
        ∙ (ap (λ (o : Option Touch). marks_at s.worker s.number first o y.server.0) is ∙ marks_here s.worker s.number first y y.server.0 refl)

    marks_for : (q : Came) (w : Went) → y.came ≡ q → y.went ≡ w → marks_of k.es ≡ came_marks s.worker s.number first y.id q ++ went_marks s.worker s.number y.id w
    marks_for q w e f =
        marks_are ∙ (ap (λ (p : Came). came_marks s.worker s.number first y.id p ++ went_marks s.worker s.number y.id y.went) e
        ∙ ap (λ (v : Went). came_marks s.worker s.number first y.id q ++ went_marks s.worker s.number y.id v) f)

    abbrev Its : What → Type 0
    Its v = FollowsId plans y.server y.id v.plan

    -- one that was taken had rested, and told what stood beside it
    was_rest : (place : PlaceNo) (uses : ℕ) → y.came ≡ Took place uses → TellsBefore s k.history k.es y (Took place uses) k.goes.before → (v : What) × (k.goes.before ≡ Some v) × IsAtRest seats y.server y.id v
    was_rest place uses came b =
        let t = s.worker in let n = s.number in
        let g = before.0 in
        let one = alone y.server.0 g before.1 in
        let T = table_after g.seen in
        let marks : marks_of k.es ≡ Take t n first place y.id uses ∷ went_marks t n y.id y.went = marks_for (Took place uses) y.went came refl in
        let r = first_needs T k.es (Take t n first place y.id uses) (went_marks t n y.id y.went) (sound_at g.seen before.2.was.legal) (legal_alone g k.history k.es before.2 one) marks in
        let idle : T.conns y.id.0 ≡ IdleAt place = sym (r.3 y.id.0).conn ∙ (r.1.rests place (face_of y.id uses) r.2.0 r.2.1).0 in
        let had : HadFor y.went (Took place uses) = subst (λ (q : Came). HadFor y.went q) came k.had in
        let parks : NoParks (marks_of k.es) = subst NoParks (sym marks) (took_parks t n first y.id y.went place uses had) in
        let same : what_of b.1.0 y.id.0 ≡ what_of g.seen y.id.0 = what_before g k.history k.es b.1.0 b.1.1 b.1.6 y.id.0 before.2 one parks b.1.3 b.1.7 in
        (b.1.2, b.1.5, record { seat = g; at = before.1; place = place; rests = idle; beside = sym same ∙ b.1.4 })

    -- the plan of a dial
    dialled : (v : What) → k.goes.after ≡ Some v → (answered : Bool) (tag : Option ℕ) → DialFollows y c net' answered k.goes.after
        → ((answered ≡ true) × ((u : What) × (k.goes.after ≡ Some u) × (u.tag ≡ tag)) ⊎ (answered ≡ false) × (k.goes.after ≡ None) × Rose net.faults net'.faults) → (p : Plan) × (next_plan y.server c.plans ≡ Some p) × (v.plan ≡ Some p)
    dialled v after true tag f o = (f.0, f.1, subst (λ (w : Option What). IsSomeAnd w (λ u. u.plan ≡ Some f.0)) after f.3)
    dialled v after false tag f (inl q) = let no : false ≡ true = q.0 in cc
    dialled v after false tag f (inr q) = let no = sym after ∙ q.1 in cc

    -- one that was opened has the next number, and that names the server's next plan
    opened_plan : y.came ≡ Opened → (1 ≤ y.id.0) × (nth_plan y.server (y.id.0 - 1) plans ≡ next_plan y.server c.plans)
    opened_plan came =
        let t = s.worker in let n = s.number in
        let g = before.0 in
        let T = table_after g.seen in
        let marks : marks_of k.es ≡ Open t n y.id ∷ went_marks t n y.id y.went = marks_for Opened y.went came refl in
        let id : y.id.0 ≡ T.next = open_next T k.es t n y.id (went_marks t n y.id y.went) (legal_alone g k.history k.es before.2 (alone y.server.0 g before.1)) marks in
        let low = next_low g.seen in
        let at : y.id.0 - 1 ≡ T.next - 1 + 0 = omega (arith, id) in
        (omega (arith, id, low), ap (λ (i : ℕ). nth_plan y.server i plans) at ∙ (sym (rest y.server g before.1 0) ∙ next_first y.server c.plans))

    -- where its dial was told
    dial_follows : (d : DialsFor y Opened net net' k.goes.after) → DialFollows y c net' d.0 k.goes.after
    dial_follows d = subst (λ (o : Option Course). IfSome o (λ q. DialFollows y q net' d.0 k.goes.after)) told d.3

    opened_follows : (v : What) → k.goes.after ≡ Some v → y.came ≡ Opened → DialsFor y Opened net net' k.goes.after → Its v
    opened_follows v after came d =
        let its = opened_plan came in
        let p = dialled v after d.0 d.1 (dial_follows d) d.5 in
        record { low = its.0; plan = (p.0, its.1 ∙ p.1, p.2) }

    -- a dial fails exactly where that plan refuses or isn't there
    answered_so : (answered : Bool) → DialFollows y c net' answered k.goes.after → (ds : List DialTold) → net'.dials ≡ Some ds → refuses (next_plan y.server c.plans) ≡ not answered
    answered_so true f ds told_dials = ap refuses f.1 ∙ f.2
    answered_so false f ds told_dials = ⊎_elim
        (λ (e : refuses (next_plan y.server c.plans) ≡ true). e)
        (λ (e : net'.dials ≡ None). let no : None ≡ Some ds = sym e ∙ told_dials in cc) f

    new_dial : y.came ≡ Opened → (d : DialsFor y Opened net net' k.goes.after) (ds : List DialTold) → net'.dials ≡ Some ds → (z : DialTold) → Contains (told_dial y.server y.id d.0 d.1 ∷ []) z → FollowsDial plans z
    new_dial came d ds told_dials z there =
        let its = opened_plan came in
        subst (λ (q : DialTold). FollowsDial plans q) (one_in (told_dial y.server y.id d.0 d.1) z there)
        (record { low = its.0; plan = ap refuses its.1 ∙ answered_so d.0 (dial_follows d) ds told_dials })

    dials_came : (q : Came) → y.came ≡ q → DialsFor y q net net' k.goes.after → DialsFollow plans net.dials → DialsFollow plans net'.dials
    dials_came Had e d = dials_none plans net.dials net'.dials d.0
    dials_came Opened e d = dials_more plans (told_dial y.server y.id d.0 d.1 ∷ []) net.dials net'.dials d.2 (new_dial e d)
    dials_came (Took place uses) e d = dials_none plans net.dials net'.dials d.0

    -- the touched connection behind the call
    after_follows : (v : What) → k.goes.after ≡ Some v → Its v
    after_follows v after = by_came y.came refl k.goes.was k.goes.dials
      where
        goes_on : (u : What) → k.goes.before ≡ Some u → Its u → Its v
        goes_on u e f =
            let g = goes_from k.goes.before k.goes.after u e k.goes.same in
            follow_same plans y.server y.id u v f (subst (λ (z : What). IsSameLink u z) (some_is g.0 v (sym g.1 ∙ after)) g.2)

        by_came : (q : Came) → y.came ≡ q → TellsBefore s k.history k.es y q k.goes.before → DialsFor y q net net' k.goes.after → Its v
        by_came Had e w d =
            let u = what_of_link (conn_link w.0) in
            goes_on u w.2 (follow y.server y.id u (inl (record { session = s; there = there; conn = w.0; has = w.1.0; to = w.1.1; number = w.1.2; tells = refl })))
        by_came Opened e w d = opened_follows v after e d
        by_came (Took place uses) e w d = let r = was_rest place uses e w in goes_on r.0 r.1 (follow y.server y.id r.0 (inr (inl r.2)))

    -- where it rests behind the call
    module _ (v : What) (r : IsAtRest seats' y.server y.id v) where
      abbrev g : History
      g = before.0

      abbrev T : Table
      T = table_after g.seen

      one : g.about.threads ≡ 1
      one = alone y.server.0 g before.1

      seat_is : r.seat ≡ k.history
      seat_is = some_is r.seat k.history (sym r.at ∙ k.seat)

      table : table_after r.seat.seen ≡ table_from T k.es
      table = ap (λ (h : History). table_after h.seen) seat_is ∙ table_alone g k.history k.es before.2 one

      idle : (table_from T k.es).conns y.id.0 ≡ IdleAt r.place
      idle = ap (λ (S : Table). S.conns y.id.0) (sym table) ∙ r.rests

      beside : (table_from T k.es).whats y.id.0 ≡ Some v
      beside = ap (λ (S : Table). S.whats y.id.0) (sym table) ∙ r.beside

      -- not one that was closed
      not_closed : (q : Came) (w : Went) → y.came ≡ q → y.went ≡ w → Contains (went_marks s.worker s.number y.id w) (Close s.worker s.number y.id) → ⊥
      not_closed q w e f has =
          let t = s.worker in let n = s.number in
          let mine = came_marks t n first y.id q in
          let all : Contains (marks_of k.es) (Close t n y.id) =
          subst (λ (ms : List Entry). Contains ms (Close t n y.id)) (sym (marks_for q w e f)) (Contains-append_right mine (went_marks t n y.id w) (Close t n y.id) has) in
          idle_not_closed (table_from T k.es) y.id.0 r.place idle (closed_by T k.es t n y.id (sound_at g.seen before.2.was.legal) (legal_alone g k.history k.es before.2 one) all)

      -- and not one that its session holds
      not_held : (m : Entry) → marks_of k.es ≡ m ∷ [] → ((S : Table) (w : Option What) → (after_entry S w m).conns y.id.0 ≡ HeldBy s.worker s.number) → ⊥
      not_held m marks holds = idle_not_held (table_from T k.es) y.id.0 r.place s.worker s.number idle (held_one T k.es m s.worker s.number y.id marks holds)

      -- what stands beside its park is what its link tells
      parked_after : (place : PlaceNo) (uses : ℕ) → y.came ≡ Had → y.went ≡ Rests place uses → TellsAfter a k.es y (Rests place uses) k.goes.gone k.goes.after → k.goes.after ≡ Some v
      parked_after place uses came went now =
          let t = s.worker in let n = s.number in
          let marks : marks_of k.es ≡ Park t n y.id place uses ∷ [] = marks_for Had (Rests place uses) came went in
          let its : Contains k.es (record { entry = Park t n y.id place uses; what = Some now.2.0 }) =
          subst (λ (w : ThreadNo). Contains k.es (record { entry = Park w n y.id place uses; what = Some now.2.0 })) worker
          (subst (λ (m : SessionNo). Contains k.es (record { entry = Park a.worker m y.id place uses; what = Some now.2.0 })) number now.2.2) in
          let parked = park_rests T k.es t n y.id place uses (Some now.2.0) marks its in
          now.2.1 ∙ (sym parked.1 ∙ beside)

      rest_went : (q : Came) (w : Went) → y.came ≡ q → y.went ≡ w → HadFor w y.came → TellsAfter a k.es y w k.goes.gone k.goes.after → Its v
      rest_went Had Stays e f had after =
          let stays = spared y.id.0 T k.es (subst (AllSpare y.id.0) (sym (marks_for Had Stays e f)) tt) in
          follow y.server y.id v (inr (inl (record { seat = g; at = before.1; place = r.place; rests = sym stays.conn ∙ idle; beside = sym stays.what ∙ beside })))
      rest_went Opened Stays e f had after = absurd (not_held (Open s.worker s.number y.id) (marks_for Opened Stays e f) (λ S w. put_same S.conns y.id.0 (HeldBy s.worker s.number) y.id.0 refl))
      rest_went (Took place uses) Stays e f had after =
          absurd (not_held (Take s.worker s.number first place y.id uses) (marks_for (Took place uses) Stays e f) (λ S w. put_same S.conns y.id.0 (HeldBy s.worker s.number) y.id.0 refl))
      rest_went q (Rests place uses) e f had after = after_follows v (parked_after place uses had f after)
      rest_went q Ends e f had after = absurd (not_closed q Ends e f (Contains-push [] (Close s.worker s.number y.id)))
      rest_went q (EndsTakenBack place uses) e f had after =
          let t = s.worker in let n = s.number in
          absurd (not_closed q (EndsTakenBack place uses) e f (Contains-push (Park t n y.id place uses ∷ Take t n false place y.id uses ∷ []) (Close t n y.id)))

      touched_rest : Its v
      touched_rest = rest_went y.came y.went refl refl k.had k.goes.is

  -- ---- each connection behind the call

  module _ (server : ServerNo) (id : ConnId) (v : What) where
    abbrev Goal : Type 0
    Goal = FollowsId plans server id v.plan

    held_by_it : (h : Holding) → a.conn ≡ Some h → conn_server h ≡ server → conn_id h ≡ id → v ≡ what_of_link (conn_link h) → (o : Option Touch) → x ≡ o → Goal
    held_by_it h e to num tells None is = follow server id v (inl (record { session = s; there = there; conn = h; has = sym (none is).conn ∙ e; to = to; number = num; tells = tells }))
    held_by_it h e to num tells (Some y) is =
        let k = (some y is).0 in
        let b = conn_after a k.es y y.went k.goes.gone k.goes.after h e k.goes.is in
        follow_move plans server y.server id y.id v.plan (sym b.0 ∙ to) (sym b.1 ∙ num) (after_follows y is k v (b.2 ∙ ap Some (sym tells)))

    held_follows : IsHeld ss' server id v → Goal
    held_follows h = dite (ℕ_discrete a.number.0 h.session.number.0)
        (λ (e : a.number.0 ≡ h.session.number.0).
        let here : session_of ss a.number.0 ≡ Some s = ap (λ (m : SessionNo). session_of ss m.0) number ∙ there in
        let going : if_going a ≡ Some h.session = sym (placed_same 0 last ss s a rise here) ∙ (ap (session_of ss') e ∙ h.there) in
        let same : a ≡ h.session = going_is a.over a h.session going in
        held_by_it h.conn (ap (λ (m : SessionNow). m.conn) same ∙ h.has) h.to h.number h.tells x refl)
        (λ ne.
        follow server id v (inl (record {
          session = h.session;
          there = sym (placed_other ss a h.session.number.0 ne) ∙ h.there;
          conn = h.conn;
          has = h.has;
          to = h.to;
          number = h.number;
          tells = h.tells;
        })))

    -- one that the call's marks spare rested before it
    spared_rest : (r : IsAtRest seats' server id v) (g : History) (es : List Note) → slice_get seats server.0 ≡ Some g → Makes g r.seat es → AllSpare id.0 (marks_of es) → Goal
    spared_rest r g es at m spare =
        let table = table_alone g r.seat es m (alone server.0 g at) in
        let stays = spared id.0 (table_after g.seen) es spare in
        follow server id v (inr (inl (record {
          seat = g;
          at = at;
          place = r.place;
          rests = sym stays.conn ∙ (ap (λ (S : Table). S.conns id.0) (sym table) ∙ r.rests);
          beside = sym stays.what ∙ (ap (λ (S : Table). S.whats id.0) (sym table) ∙ r.beside);
        })))

    rest_by : (r : IsAtRest seats' server id v) (g : History) (es : List Note) → slice_get seats server.0 ≡ Some g → Makes g r.seat es → (o : Option Touch) → x ≡ o
        → marks_of es ≡ marks_at s.worker s.number first o server.0 → Goal
    rest_by r g es at m None is marks = spared_rest r g es at m (subst (AllSpare id.0) (sym marks) tt)
    rest_by r g es at m (Some y) is marks = dite (ℕ_discrete y.server.0 server.0)
        (λ (e : y.server.0 ≡ server.0).
        dite (ℕ_discrete y.id.0 id.0)
        (λ (f : y.id.0 ≡ id.0).
        let e' = server_is y.server server e in let f' = conn_is y.id id f in
        let its : IsAtRest seats' y.server y.id v = subst (λ (z : ServerNo). IsAtRest seats' z y.id v) (sym e') (subst (λ (i : ConnId). IsAtRest seats' server i v) (sym f') r) in
        follow_move plans server y.server id y.id v.plan e' f' (touched_rest y is (some y is).0 v its))
        (λ ne. spared_rest r g es at m (subst (AllSpare id.0) (sym (marks ∙ marks_here s.worker s.number first y server.0 e)) (touch_spares s.worker s.number first y id.0 ne))))
        (λ ne. spared_rest r g es at m (subst (AllSpare id.0) (sym (marks ∙ marks_past s.worker s.number first y server.0 ne)) tt))

    rest_follows : IsAtRest seats' server id v → Goal
    rest_follows r =
        let b = adds_back (HasMarks s.worker s.number first x) 0 seats seats' added server.0 r.seat adds r.at in
        rest_by r b.0 b.1 b.2 b.3 x refl (subst (λ (i : ℕ). marks_of b.1 ≡ marks_at s.worker s.number first x i) (from_zero server.0) b.4.marks)

    grave_follows : IsInGrave graves' server id v → Goal
    grave_follows g = ⊎_elim
        (λ (old : Contains graves (grave (OfConn server id) g.link)). follow server id v (inr (inr (record { link = g.link; there = old; tells = g.tells }))))
        (λ (new : (y : Touch) × (x ≡ Some y) × (server ≡ y.server) × (id ≡ y.id) × (gone ≡ Some g.link)).
        let y = new.0 in let k = (some y new.1).0 in
        let after : k.goes.after ≡ Some (what_of_link g.link) = gone_after a k.es y y.went k.goes.gone k.goes.after g.link k.goes.is (sym (some y new.1).1 ∙ new.4) in
        follow_move plans server y.server id y.id v.plan (sym new.2) (sym new.3) (after_follows y new.1 k v (after ∙ ap Some (sym g.tells))))
        (grave_from server id g.link g.there)

    conn_follows : ConnIs ss' seats' graves' server id v → Goal
    conn_follows (inl h) = held_follows h
    conn_follows (inr (inl r)) = rest_follows r
    conn_follows (inr (inr g)) = grave_follows g

  pub conns_go : ConnsFollow plans ss' seats' graves'
  conns_go = conn_follows

  -- ---- what is left

  abbrev IsLeft : Type 0
  IsLeft = (d : Course) × (net'.course ≡ Some d) × LeavesRest plans seats' d.plans

  -- a seat before the call, and how many ids were opened there in it
  seat_before : (server : ServerNo) (h : History) → slice_get seats' server.0 ≡ Some h
      → (g : History) × (slice_get seats server.0 ≡ Some g) × ((table_after h.seen).next ≡ (table_after g.seen).next + opens (marks_at s.worker s.number first x server.0))
  seat_before server h at =
      let b = adds_back (HasMarks s.worker s.number first x) 0 seats seats' added server.0 h adds at in
      let marks : marks_of b.1 ≡ marks_at s.worker s.number first x server.0 = subst (λ (i : ℕ). marks_of b.1 ≡ marks_at s.worker s.number first x i) (from_zero server.0) b.4.marks in (
        b.0,
        b.2,
        ap (λ (S : Table). S.next) (table_alone b.0 h b.1 b.3 (alone server.0 b.0 b.2))
            ∙ (next_along (table_after b.0.seen) b.1 ∙ ap (λ (ms : List Entry). (table_after b.0.seen).next + opens ms) marks),
      )

  -- the course as it is told behind the call
  leaves_are : (left : List Plan) → LeavesPlans left net.course net'.course → (d : Course) × (net'.course ≡ Some d) × (d.plans ≡ left)
  leaves_are left l = let r = subst (λ (o : Option Course). LeavesPlans left o net'.course) told l in (r.0, r.1, r.2)

  -- nothing was opened
  same_left : CourseStays net net' → ((i : ℕ) → opens (marks_at s.worker s.number first x i) ≡ 0) → IsLeft
  same_left stays no_open =
      let l = leaves_are (plans_of net.course) stays in
      let plans_are : l.0.plans ≡ c.plans = l.2 ∙ ap plans_of told in (
        l.0,
        l.1,
        λ server h at k.
            let b = seat_before server h at in
            let none = no_open server.0 in
            let e = b.2 in
            let index : (table_after b.0.seen).next - 1 + k ≡ (table_after h.seen).next - 1 + k = omega (arith, e, none) in
            ap (nth_plan server k) plans_are ∙ (rest server b.0 b.1 k ∙ ap (λ (i : ℕ). nth_plan server i plans) index),
      )

  touch_at : (y : Touch) (i : ℕ) → x ≡ Some y → opens (marks_at s.worker s.number first x i) ≡ opens (marks_at s.worker s.number first (Some y) i)
  touch_at y i is = ap (λ (o : Option Touch). opens (marks_at s.worker s.number first o i)) is

  no_open_at : (y : Touch) (i : ℕ) → x ≡ Some y → came_opens y.came ≡ 0 → opens (marks_at s.worker s.number first x i) ≡ 0
  no_open_at y i is none = touch_at y i is ∙ dite (ℕ_discrete y.server.0 i)
      (λ (e : y.server.0 ≡ i). ap opens (marks_here s.worker s.number first y i e) ∙ (touch_opens s.worker s.number first y ∙ none))
      (λ ne. ap opens (marks_past s.worker s.number first y i ne))

  -- one was, and used its server's next plan
  one_left : (y : Touch) → x ≡ Some y → came_opens y.came ≡ 1 → LeavesPlans (without_next y.server (plans_of net.course)) net.course net'.course → IsLeft
  one_left y is once leaves =
      let l = leaves_are (without_next y.server (plans_of net.course)) leaves in
      let plans_are : l.0.plans ≡ without_next y.server c.plans = l.2 ∙ ap (λ (o : Option Course). without_next y.server (plans_of o)) told in (
        l.0,
        l.1,
        λ server h at k.
            let b = seat_before server h at in
            let low = next_low b.0.seen in
            let e = b.2 in
            ap (nth_plan server k) plans_are ∙ dite (ℕ_discrete y.server.0 server.0)
            (λ (f : y.server.0 ≡ server.0).
            let here : opens (marks_at s.worker s.number first x server.0) ≡ 1 = touch_at y server.0 is ∙ (ap opens (marks_here s.worker s.number first y server.0 f) ∙ (touch_opens s.worker s.number first y ∙ once)) in
            let index : (table_after b.0.seen).next - 1 + suc k ≡ (table_after h.seen).next - 1 + k = omega (arith, e, here, low) in
            ap (λ (z : ServerNo). nth_plan server k (without_next z c.plans)) (server_is y.server server f)
            ∙ (nth_behind server k c.plans ∙ (rest server b.0 b.1 (suc k) ∙ ap (λ (i : ℕ). nth_plan server i plans) index)))
            (λ ne.
            let past : opens (marks_at s.worker s.number first x server.0) ≡ 0 = touch_at y server.0 is ∙ ap opens (marks_past s.worker s.number first y server.0 ne) in
            let index : (table_after b.0.seen).next - 1 + k ≡ (table_after h.seen).next - 1 + k = omega (arith, e, past) in
            nth_other server y.server k c.plans ne ∙ (rest server b.0 b.1 k ∙ ap (λ (i : ℕ). nth_plan server i plans) index)),
      )

  left_came : (y : Touch) → x ≡ Some y → (q : Came) (after : Option What) → y.came ≡ q → DialsFor y q net net' after → IsLeft
  left_came y is Had after e d = same_left d.1 (λ i. no_open_at y i is (ap came_opens e))
  left_came y is Opened after e d = one_left y is (ap came_opens e) d.4
  left_came y is (Took place uses) after e d = same_left d.1 (λ i. no_open_at y i is (ap came_opens e))

  left_by : (o : Option Touch) → x ≡ o → IsLeft
  left_by None is = same_left (none is).course (λ i. ap (λ (o : Option Touch). opens (marks_at s.worker s.number first o i)) is)
  left_by (Some y) is = let k = (some y is).0 in left_came y is y.came k.goes.after refl k.goes.dials

  pub rest_go : IsLeft
  rest_go = left_by x refl

  -- ---- dials

  dials_by : (o : Option Touch) → x ≡ o → DialsFollow plans net.dials → DialsFollow plans net'.dials
  dials_by None is = dials_none plans net.dials net'.dials (none is).dials
  dials_by (Some y) is = let k = (some y is).0 in dials_came y is k y.came refl k.goes.dials

  pub dials_go : DialsFollow plans net.dials → DialsFollow plans net'.dials
  dials_go = dials_by x refl
