-- The caretaker's rounds and orders keep that each link follows its plan.
use Rattle.std.proofs.Common.{◌≡◌, ⊎_elim, inl, inr, ℕ, ◌+◌, List, [], ◌∷◌, ◌++◌, refl, sym, ap, ◌∙◌, subst, arith}
use Rattle.std.specs.Prelude.{Contains, ◌-◌}
use Rattle.std.proofs.lemmas.List.Elements.{Contains-append_cases}
use Rattle.hx_base.specs.declared.numbers.Millis.{Millis}
use Rattle.hx_base.specs.declared.numbers.ThreadNo.{ThreadNo}
use Rattle.hx_base.specs.declared.order.Order.{Order}
use Rattle.hx_base.specs.declared.plan.Plan.{Plan}
use Rattle.hx_base.specs.declared.what.What.{What}
use Rattle.hx_conn.specs.WhatTold.{what_of_link}
use Rattle.hx_link.specs.Courses.{Course}
use Rattle.hx_link.specs.Nets.{NetState}
use Rattle.hx_pool.specs.History.{marks_of, table_after}
use Rattle.hx_pool.specs.SeatView.{History}
use Rattle.hx_pool.specs.Table.{Table}
use Rattle.hx_record.specs.declared.served.Told.{Told}
use Rattle.hx_caretaker.specs.Orders.{OrdersAt}
use Rattle.hx_caretaker.specs.Rounds.{TicksAt}
use Rattle.hx_caretaker.specs.Sweeps.{Swept, Sweep, sweep_marks, no_sweep}
use Rattle.hx_connecting.specs.Sessions.{SessionNow}
use Rattle.hx_worker.specs.Cares.{Cares}
use Rattle.hx_worker.specs.Workers.{WorkerNow}
use Rattle.hx_course.specs.Courses.{KeepsCourse}
use Rattle.hx_course.specs.Graves.{Grave, OfClient, OfConn, grave}
use Rattle.hx_course.specs.Sweeping.{sweep_graves}
use Rattle.hx_course.proofs.CareLemmas.{IsSwept, CaredAt, ticks_cared, orders_cared, sweep_back, sweep_no_client}
use Rattle.hx_course.proofs.DrainLemmas.{rested}
use Rattle.hx_course.proofs.TableLemmas.{table_alone}
use Rattle.hx_planned.specs.Plans.{nth_plan, ClientsFollow, ConnsFollow, LeavesRest, KeepsPlans}
use Rattle.hx_planned.proofs.CareBack.{swept_rested}
use Rattle.hx_planned.proofs.DialPlans.{dials_stay}
use Rattle.hx_planned.proofs.Opens.{opens, opens_both, next_along, spare_opens}

-- a sweep opens nothing
sweep_opens : (t : ThreadNo) (swept : List Swept) → opens (sweep_marks t swept) ≡ 0
sweep_opens t [] = refl
sweep_opens t (x ∷ swept) = let r = sweep_opens t swept in omega arith

module _ (P : ℕ → History → History → Sweep → Type 0) (cared : (i : ℕ) (old new : History) (x : Sweep) → P i old new x → CaredAt old new x) (w w' : WorkerNow) (net net' : NetState) (count : ℕ)
    (k : Cares P w w' net net' count) (records : List Told) (came plans : List Plan) (graves : List Grave) (keeps : KeepsCourse w net records graves) (have : KeepsPlans came plans w net graves) where
  abbrev sweeps : List Sweep
  sweeps = k.cares.sweeps

  abbrev more : List Grave
  more = sweep_graves 0 sweeps

  abbrev c : Course
  c = have.next.0

  clients_care : ClientsFollow came w.sessions (graves ++ more) w.thread
  clients_care n l (inl q) = have.clients n l (inl q)
  clients_care n l (inr g) = ⊎_elim
      (λ (old : Contains graves (grave (OfClient w.thread n) l)). have.clients n l (inr old))
      (λ (new : Contains more (grave (OfClient w.thread n) l)). absurd (sweep_no_client 0 sweeps w.thread n l new))
      (Contains-append_cases graves more (grave (OfClient w.thread n) l) g)

  conns_care : ConnsFollow plans w.sessions w'.seats (graves ++ more)
  conns_care server id v (inl h) = have.conns server id v (inl h)
  conns_care server id v (inr (inl r)) = have.conns server id v (inr (inl (rested P w.seats w'.seats sweeps cared k.cares.each keeps.alone server id v r)))
  conns_care server id v (inr (inr g)) = ⊎_elim
      (λ (old : Contains graves (grave (OfConn server id) g.link)). have.conns server id v (inr (inr (record { link = g.link; there = old; tells = g.tells }))))
      (λ (new : Contains more (grave (OfConn server id) g.link)).
      let was = swept_rested P w.seats w'.seats sweeps cared k.cares.each keeps.alone server id g.link new in
      let f = have.conns server id (what_of_link g.link) (inr (inl was)) in
      record { low = f.low; plan = (f.plan.0, f.plan.1, ap (λ (u : What). u.plan) g.tells ∙ f.plan.2) })
      (Contains-append_cases graves more (grave (OfConn server id) g.link) g.there)

  -- no id is used
  rest_care : LeavesRest plans w'.seats c.plans
  rest_care server h at i =
      let b = sweep_back P 0 w.seats w'.seats sweeps server.0 h k.cares.each at in
      let g = b.seat in
      have.next.2 server g b.at i ∙ ap (λ (m : ℕ). nth_plan server (m - 1 + i) plans) (⊎_elim
      (λ (q : (h ≡ g) × (b.sweep ≡ no_sweep)). ap (λ (z : History). (table_after z.seen).next) (sym q.0))
      (λ (s : IsSwept g h b.sweep).
      let t = g.about.thread in
      let lead = spare_opens s.marks.lead s.marks.spares in
      let swept = sweep_opens t b.sweep.swept in
      let both = opens_both s.marks.lead (sweep_marks t b.sweep.swept) in
      let marks : opens (marks_of b.sweep.added) ≡ opens (s.marks.lead ++ sweep_marks t b.sweep.swept) = ap opens s.marks.marks in
      let along = next_along (table_after g.seen) b.sweep.added in
      let table = ap (λ (S : Table). S.next) (table_alone g h b.sweep.added s.makes (keeps.alone server.0 g b.at)) in
      sym (table ∙ (along ∙ omega (arith, lead, swept, both, marks))))
      (cared (0 + server.0) g h b.sweep b.does))

  pub plans_cares : KeepsPlans came plans w' net' (graves ++ more)
  plans_cares = record {
    count = k.stays.last ∙ have.count;
    clients = subst (λ (th : ThreadNo). ClientsFollow came w'.sessions (graves ++ more) th) (sym k.stays.thread)
        (subst (λ (ss : List SessionNow). ClientsFollow came ss (graves ++ more) w.thread) (sym k.sessions) clients_care);
    conns = subst (λ (ss : List SessionNow). ConnsFollow plans ss w'.seats (graves ++ more)) (sym k.sessions) conns_care;
    dials = dials_stay plans net.dials net'.dials k.cares.buries.dials have.dials;
    next = (c, k.cares.buries.course ∙ have.next.1, rest_care);
  }

-- a round of the caretaker, and an order
pub plans_tick : (w w' : WorkerNow) (net net' : NetState) (now : Millis) (count : ℕ) (k : Cares (TicksAt now) w w' net net' count) (records : List Told) (came plans : List Plan) (graves : List Grave)
    → KeepsCourse w net records graves → KeepsPlans came plans w net graves → KeepsPlans came plans w' net' (graves ++ sweep_graves 0 k.cares.sweeps)
plans_tick w w' net net' now count k records came plans graves keeps have = plans_cares (TicksAt now) (ticks_cared now) w w' net net' count k records came plans graves keeps have

pub plans_order : (w w' : WorkerNow) (net net' : NetState) (what : Order) (count : ℕ) (k : Cares (OrdersAt what) w w' net net' count) (records : List Told) (came plans : List Plan) (graves : List Grave)
    → KeepsCourse w net records graves → KeepsPlans came plans w net graves → KeepsPlans came plans w' net' (graves ++ sweep_graves 0 k.cares.sweeps)
plans_order w w' net net' what count k records came plans graves keeps have = plans_cares (OrdersAt what) (orders_cared what) w w' net net' count k records came plans graves keeps have
