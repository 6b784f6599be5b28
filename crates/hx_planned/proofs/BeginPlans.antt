-- A course begins with all plans left; a client comes with its plan, or is turned away.
use Rattle.std.proofs.Common.{◌≡◌, ⊎_elim, inl, inr, ℕ, ◌+◌, List, [], ◌∷◌, ◌++◌, length, refl, sym, ap, ◌∙◌, subst, arith, Option, Some, None}
use Rattle.std.specs.Prelude.{Contains, slice_get, ◌-◌}
use Rattle.std.proofs.lemmas.List.Elements.{Contains-append_cases}
use Rattle.hx_base.specs.declared.numbers.ConnId.{ConnId}
use Rattle.hx_base.specs.declared.numbers.Millis.{Millis}
use Rattle.hx_base.specs.declared.numbers.ServerNo.{ServerNo}
use Rattle.hx_base.specs.declared.numbers.SessionNo.{SessionNo}
use Rattle.hx_base.specs.declared.numbers.ThreadNo.{ThreadNo}
use Rattle.hx_base.specs.declared.plan.Plan.{Plan}
use Rattle.hx_conn.specs.WhatTold.{what_of_link}
use Rattle.hx_config.specs.Meaning.{Meaning}
use Rattle.hx_link.specs.Courses.{Course}
use Rattle.hx_link.specs.Nets.{DialTold, NetState, StaysTold}
use Rattle.hx_link.specs.Told.{LinkState}
use Rattle.hx_pool.specs.declared.entries.Note.{Note}
use Rattle.hx_pool.specs.History.{table_after}
use Rattle.hx_pool.specs.SeatView.{History}
use Rattle.hx_pool.specs.Table.{Unopened, IdleAt}
use Rattle.hx_connecting.specs.Journals.{JournalRoom}
use Rattle.hx_connecting.specs.Links.{LeavesPlans, CourseStays, plans_of}
use Rattle.hx_connecting.specs.Sessions.{SessionNow, admitted}
use Rattle.hx_worker.specs.Admitting.{Admits}
use Rattle.hx_worker.specs.Workers.{WorkerNow, session_of, new_worker}
use Rattle.hx_course.specs.Graves.{Grave, OfClient, OfConn, OfNobody, grave}
use Rattle.hx_course.proofs.Numbers.{some_is, session_more}
use Rattle.hx_course.proofs.TableLemmas.{none_in, one_in}
use Rattle.hx_planned.specs.Plans.{nth_plan, FollowsNumber, FollowsId, ClientsFollow, ConnsFollow, DialsFollow, LeavesRest, KeepsPlans}
use Rattle.hx_planned.proofs.DialPlans.{dials_stay}
use Rattle.hx_planned.proofs.PlanLists.{got_before, got_last, length_more}

-- a net that tells what is to come as it did, with the same plans left
pub course_on : (net net' : NetState) (plans : List Plan) (seats : List History) → CourseStays net net' → (c : Course) × (net.course ≡ Some c) × LeavesRest plans seats c.plans
    → (d : Course) × (net'.course ≡ Some d) × LeavesRest plans seats d.plans
course_on net net' plans seats stays n =
    let r = subst (λ (o : Option Course). LeavesPlans (plans_of o) o net'.course) n.1 stays in
    (r.0, r.1, λ server h at k. ap (nth_plan server k) r.2 ∙ n.2 server h at k)

-- over such a net everything stands as it stood
pub plans_net : (w : WorkerNow) (net net' : NetState) → CourseStays net net' → StaysTold net.dials net'.dials → (came plans : List Plan) (graves : List Grave) → KeepsPlans came plans w net graves
    → KeepsPlans came plans w net' graves
plans_net w net net' stays dials came plans graves have = record {
  count = have.count;
  clients = have.clients;
  conns = have.conns;
  dials = dials_stay plans net.dials net'.dials dials have.dials;
  next = course_on net net' plans w.seats stays have.next;
}

-- ---- a course begins

pub plans_begin : (t : ThreadNo) (config : Meaning) (seats : List History) (journals : List JournalRoom) (net : NetState) (c : Course) → ((i : ℕ) (h : History) → slice_get seats i ≡ Some h → h.seen ≡ [])
    → net.course ≡ Some c → StaysTold (Some []) net.dials → KeepsPlans [] c.plans (new_worker t config seats journals) net []
plans_begin t config seats journals net c unused told undialled = record { count = refl; clients = no_client; conns = no_conn; dials = dials_stay c.plans (Some []) net.dials undialled no_dial; next = (c, told, all_left) }
  where
    no_client : ClientsFollow [] [] [] t
    no_client n l (inl k) = let none = k.there in cc
    no_client n l (inr g) = absurd (none_in (grave (OfClient t n) l) g)

    no_conn : ConnsFollow c.plans [] seats []
    no_conn server id v (inl h) = let none = h.there in cc
    no_conn server id v (inr (inl r)) =
        let none : Unopened ≡ IdleAt r.place = sym (ap (λ (H : List Note). (table_after H).conns id.0) (unused server.0 r.seat r.at)) ∙ r.rests in cc
    no_conn server id v (inr (inr g)) = absurd (none_in (grave (OfConn server id) g.link) g.there)

    no_dial : DialsFollow c.plans (Some [])
    no_dial ds e d there = let is : [] ≡ ds = some_is [] ds e in absurd (none_in d (subst (λ (xs : List DialTold). Contains xs d) (sym is) there))

    all_left : LeavesRest c.plans seats c.plans
    all_left server h at k =
        let e : (table_after h.seen).next ≡ 1 = ap (λ (H : List Note). (table_after H).next) (unused server.0 h at) in
        let index : k ≡ (table_after h.seen).next - 1 + k = omega (arith, e) in
        ap (λ (i : ℕ). nth_plan server i c.plans) index

-- ---- a client comes

module _ (w : WorkerNow) (client : LinkState) (front : ℕ) (now : Millis) (n : SessionNo) (p : Plan) (number : n.0 ≡ w.last + 1) (plan : client.plan ≡ Some p)
    (came plans : List Plan) (graves : List Grave) (count : w.last ≡ length came) where
  abbrev s : SessionNow
  s = admitted w.thread n front now.0 client

  abbrev ss : List SessionNow
  ss = w.sessions ++ s ∷ []

  -- what came before stays
  more_came : (m : SessionNo) (own : Option Plan) → FollowsNumber came m own → FollowsNumber (came ++ p ∷ []) m own
  more_came m own f = record { low = f.low; plan = (f.plan.0, got_before came (p ∷ []) (m.0 - 1) f.plan.0 f.plan.1, f.plan.2) }

  clients_admit : ClientsFollow came w.sessions graves w.thread → ClientsFollow (came ++ p ∷ []) ss graves w.thread
  clients_admit follow m l (inr g) = more_came m l.plan (follow m l (inr g))
  clients_admit follow m l (inl k) = ⊎_elim
      (λ (old : session_of w.sessions m.0 ≡ Some k.session). more_came m l.plan (follow m l (inl (record { session = k.session; there = old; worker = k.worker; link = k.link }))))
      (λ (new : (s.number.0 ≡ m.0) × (k.session ≡ s)).
      let is = new.0 in
      let at : length came ≡ m.0 - 1 = omega (arith, is, number, count) in
      let link : l ≡ client = sym k.link ∙ ap (λ (z : SessionNow). z.client) new.1 in
      record { low = omega (arith, is, number); plan = (p, ap (slice_get (came ++ p ∷ [])) (sym at) ∙ got_last came p, ap (λ (j : LinkState). j.plan) link ∙ plan) })
      (session_more w.sessions s m.0 k.session k.there)

  -- a session that begins has no connection
  conns_admit : ConnsFollow plans w.sessions w.seats graves → ConnsFollow plans ss w.seats graves
  conns_admit follow server id v (inr r) = follow server id v (inr r)
  conns_admit follow server id v (inl h) = ⊎_elim
      (λ (old : session_of w.sessions h.session.number.0 ≡ Some h.session).
      follow server id v (inl (record { session = h.session; there = old; conn = h.conn; has = h.has; to = h.to; number = h.number; tells = h.tells })))
      (λ (new : (s.number.0 ≡ h.session.number.0) × (h.session ≡ s)). let none : None ≡ Some h.conn = ap (λ (z : SessionNow). z.conn) (sym new.1) ∙ h.has in cc)
      (session_more w.sessions s h.session.number.0 h.session h.there)

pub plans_admit : (w w' : WorkerNow) (net net' : NetState) (client : LinkState) (front : ℕ) (now : Millis) (n : SessionNo) (p : Plan) → Admits w w' client front now n → client.plan ≡ Some p → CourseStays net net'
    → StaysTold net.dials net'.dials → (came plans : List Plan) (graves : List Grave) → KeepsPlans came plans w net graves → KeepsPlans (came ++ p ∷ []) plans w' net' graves
plans_admit w w' net net' client front now n p k plan stays dials came plans graves have = subst (λ (z : WorkerNow). KeepsPlans (came ++ p ∷ []) plans z net' graves) (sym k.admits) (record {
  count = ap (λ (m : ℕ). m + 1) have.count ∙ sym (length_more came p);
  clients = clients_admit w client front now n p k.number plan came plans graves have.count have.clients;
  conns = conns_admit w client front now n p k.number plan came plans graves have.count have.conns;
  dials = dials_stay plans net.dials net'.dials dials have.dials;
  next = course_on net net' plans w.seats stays have.next;
})

-- ---- a client is turned away

-- the new grave is nobody's
nobody_client : (client : LinkState) (t : ThreadNo) (n : SessionNo) (l : LinkState) → Contains (grave OfNobody client ∷ []) (grave (OfClient t n) l) → ⊥
nobody_client client t n l c = let e : OfNobody ≡ OfClient t n = ap (λ (g : Grave). g.owner) (one_in (grave OfNobody client) (grave (OfClient t n) l) c) in cc

nobody_conn : (client : LinkState) (server : ServerNo) (id : ConnId) (l : LinkState) → Contains (grave OfNobody client ∷ []) (grave (OfConn server id) l) → ⊥
nobody_conn client server id l c = let e : OfNobody ≡ OfConn server id = ap (λ (g : Grave). g.owner) (one_in (grave OfNobody client) (grave (OfConn server id) l) c) in cc

pub plans_turned : (w : WorkerNow) (net net' : NetState) (client : LinkState) → CourseStays net net' → StaysTold net.dials net'.dials → (came plans : List Plan) (graves : List Grave) → KeepsPlans came plans w net graves
    → KeepsPlans came plans w net' (graves ++ grave OfNobody client ∷ [])
plans_turned w net net' client stays dials came plans graves have = record { count = have.count; clients = clients_on; conns = conns_on; dials = dials_stay plans net.dials net'.dials dials have.dials; next = course_on net net' plans w.seats stays have.next }
  where
    clients_on : ClientsFollow came w.sessions (graves ++ grave OfNobody client ∷ []) w.thread
    clients_on n l (inl k) = have.clients n l (inl k)
    clients_on n l (inr g) = ⊎_elim
        (λ (old : Contains graves (grave (OfClient w.thread n) l)). have.clients n l (inr old))
        (λ (new : Contains (grave OfNobody client ∷ []) (grave (OfClient w.thread n) l)). absurd (nobody_client client w.thread n l new))
        (Contains-append_cases graves (grave OfNobody client ∷ []) (grave (OfClient w.thread n) l) g)

    conns_on : ConnsFollow plans w.sessions w.seats (graves ++ grave OfNobody client ∷ [])
    conns_on server id v (inl h) = have.conns server id v (inl h)
    conns_on server id v (inr (inl r)) = have.conns server id v (inr (inl r))
    conns_on server id v (inr (inr g)) = ⊎_elim
        (λ (old : Contains graves (grave (OfConn server id) g.link)). have.conns server id v (inr (inr (record { link = g.link; there = old; tells = g.tells }))))
        (λ (new : Contains (grave OfNobody client ∷ []) (grave (OfConn server id) g.link)). absurd (nobody_conn client server id g.link new))
        (Contains-append_cases graves (grave OfNobody client ∷ []) (grave (OfConn server id) g.link) g.there)

-- ---- what was buried

pub graves_follow : (w : WorkerNow) (net : NetState) (came plans : List Plan) (graves : List Grave) → KeepsPlans came plans w net graves
    → ((n : SessionNo) (l : LinkState) → Contains graves (grave (OfClient w.thread n) l) → FollowsNumber came n l.plan)
    × ((server : ServerNo) (id : ConnId) (l : LinkState) → Contains graves (grave (OfConn server id) l) → FollowsId plans server id l.plan)
graves_follow w net came plans graves have =
    (λ n l c. have.clients n l (inr c), λ server id l c. have.conns server id (what_of_link l) (inr (inr (record { link = l; there = c; tells = refl }))))
