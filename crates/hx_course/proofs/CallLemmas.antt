-- The other calls of a worker keep what holds of a course: admission, the caretaker's rounds and orders; and a course begins.
use Rattle.std.proofs.Common.{◌≡◌, ◌⊎◌, ⊎_elim, inl, inr, ℕ, ◌+◌, List, [], ◌∷◌, ◌++◌, refl, sym, ap, ◌∙◌, subst, append-nil, Some, None, arith}
use Rattle.std.specs.Prelude.{Contains, slice_get}
use Rattle.std.proofs.lemmas.List.Elements.{Contains-append_left, Contains-append_right, Contains-append_cases}
use Rattle.hx_base.specs.declared.numbers.ConnId.{ConnId}
use Rattle.hx_base.specs.declared.numbers.Millis.{Millis}
use Rattle.hx_base.specs.declared.numbers.ServerNo.{ServerNo}
use Rattle.hx_base.specs.declared.numbers.SessionNo.{SessionNo}
use Rattle.hx_base.specs.declared.numbers.ThreadNo.{ThreadNo}
use Rattle.hx_base.specs.declared.order.Order.{Order}
use Rattle.hx_base.specs.declared.what.What.{What}
use Rattle.hx_conn.specs.WhatTold.{what_of_link}
use Rattle.hx_config.specs.Meaning.{Meaning}
use Rattle.hx_link.specs.Nets.{DialTold, NetState, StaysTold}
use Rattle.hx_link.specs.Told.{LinkState}
use Rattle.hx_pool.specs.declared.entries.Note.{Note}
use Rattle.hx_pool.specs.History.{table_after}
use Rattle.hx_pool.specs.SeatView.{History}
use Rattle.hx_pool.specs.Table.{Unopened, IdleAt}
use Rattle.hx_record.proofs.Following.{conn_none}
use Rattle.hx_record.specs.declared.served.Told.{Told}
use Rattle.hx_record.specs.declared.served.Told.TheVariants as line
use Rattle.hx_caretaker.specs.Caring.{all_links}
use Rattle.hx_caretaker.specs.Orders.{OrdersAt}
use Rattle.hx_caretaker.specs.Rounds.{TicksAt}
use Rattle.hx_caretaker.specs.Sweeps.{Sweep}
use Rattle.hx_connecting.specs.Journals.{JournalRoom}
use Rattle.hx_connecting.specs.Links.{GainsAll}
use Rattle.hx_connecting.specs.Sessions.{SessionNow, Holding, admitted}
use Rattle.hx_worker.specs.Admitting.{Admits}
use Rattle.hx_worker.specs.Cares.{Cares}
use Rattle.hx_worker.specs.Workers.{WorkerNow, session_of, new_worker}
use Rattle.hx_course.specs.Calls.{AreAlone}
use Rattle.hx_course.specs.Clients.{KeepsClients}
use Rattle.hx_course.specs.Conns.{CoversHeld, HeldTells, KeepsConns}
use Rattle.hx_course.specs.Courses.{KeepsCourse}
use Rattle.hx_course.specs.Graves.{Grave, OfClient, OfConn, OfNobody, grave, AreBuried, TellsOwner}
use Rattle.hx_course.specs.Owners.{AreInOrder, KeepsOwners}
use Rattle.hx_course.proofs.DialLemmas.{dials_stay, stays_none}
use Rattle.hx_course.specs.Places.{KeepsDials, ClientIs, IsAtRest, IsInGrave, ConnIs, BytesGrow, LinksGoOn}
use Rattle.hx_course.specs.Sweeping.{sweep_graves}
use Rattle.hx_course.specs.Truths.{IsTrueNow, KeepsTruth}
use Rattle.hx_course.proofs.CareLemmas.{CaredAt, ticks_cared, orders_cared, alone_cared, all_cared_links, sweep_no_client, rest_on, conns_care, all_order_cared, sweep_clients, sweep_dials}
use Rattle.hx_course.proofs.ClientLemmas.{clients_begin, clients_more, clients_admit}
use Rattle.hx_course.proofs.Numbers.{some_is, session_old, session_more}
use Rattle.hx_course.proofs.OwnerLemmas.{owners_more, owners_admit}
use Rattle.hx_course.proofs.StepLemmas.{buried_more}
use Rattle.hx_course.proofs.TableLemmas.{none_in, one_in}
use Rattle.hx_course.proofs.TruthLemmas.{told_same, truth_on}

-- what is told of the same records, where no line is told
truth_same : (ss ss' : List SessionNow) (seats seats' : List History) (graves graves' : List Grave) (records : List Told) → LinksGoOn ss ss' seats seats' graves graves'
    → KeepsTruth ss seats records graves → KeepsTruth ss' seats' records graves'
truth_same ss ss' seats seats' graves graves' records go k r c =
    subst (λ (rs : List Told). IsTrueNow ss' seats' rs graves' r r.kind) (append-nil records) (truth_on ss ss' seats seats' graves graves' go records [] k r c)

-- ---- a course begins

pub course_begin : (t : ThreadNo) (config : Meaning) (seats : List History) (journals : List JournalRoom) (net : NetState) → AreAlone seats → AreInOrder seats → ((i : ℕ) (h : History) → slice_get seats i ≡ Some h → h.seen ≡ []) → AreBuried [] net → StaysTold (Some []) net.dials → KeepsCourse (new_worker t config seats journals) net [] []
course_begin t config seats journals net alone order unused none no_dial = record {
  alone = alone;
  buried = none;
  clients = clients_begin t;
  truth = λ r c. absurd (none_in (line.Served r) c);
  conns = record {
    held = λ n s c e. cc;
    rests = λ server id v r. absurd (nothing server id v r);
    fresh = λ server id h at none. conn_none server id;
    buried = λ server id l c. absurd (none_in (grave (OfConn server id) l) c);
  };
  owners = record { rise = omega arith; its = λ n s e. cc; order = order; clients = λ n s e. cc; dials = λ g c. absurd (none_in g c); lefts = refl; each = λ n low high. absurd (omega arith) };
  dials = λ ds told d there answered. absurd (undialled ds told d there);
}
  where
    undialled : (ds : List DialTold) → net.dials ≡ Some ds → (d : DialTold) → Contains ds d → ⊥
    undialled ds told d there = ⊎_elim
        (λ (e : net.dials ≡ Some []). let same : ds ≡ [] = some_is ds [] (sym told ∙ e) in none_in d (subst (λ (xs : List DialTold). Contains xs d) same there))
        (λ (e : net.dials ≡ None). let other : None ≡ Some ds = sym e ∙ told in cc) no_dial

    nothing : (server : ServerNo) (id : ConnId) (v : What) → IsAtRest seats server id v → ⊥
    nothing server id v r =
        let none : Unopened ≡ IdleAt r.place = sym (ap (λ (H : List Note). (table_after H).conns id.0) (unused server.0 r.seat r.at)) ∙ r.rests in cc

-- ---- a client comes

module _ (w w' : WorkerNow) (net net' : NetState) (client : LinkState) (front : ℕ) (now : Millis) (n : SessionNo) (k : Admits w w' client front now n) (same : net'.buried ≡ net.buried) (same_dials : net'.dials ≡ net.dials) (dial : client.dial ≡ None)
    (records : List Told) (graves : List Grave) (keeps : KeepsCourse w net records graves) where
  abbrev s : SessionNow
  s = admitted w.thread n front now.0 client

  abbrev after : WorkerNow
  after = record w { last = w.last + 1; sessions = w.sessions ++ s ∷ [] }

  abbrev ss : List SessionNow
  ss = w.sessions ++ s ∷ []

  client_on : (t : ThreadNo) (m : SessionNo) (l : LinkState) → ClientIs w.sessions graves t m l → (j : LinkState) × ClientIs ss graves t m j × BytesGrow (what_of_link l) (what_of_link j)
  client_on t m l (inr g) = (l, inr g, told_same (what_of_link l).told)
  client_on t m l (inl c) = (l, inl (record { session = c.session; there = session_old w.sessions s m.0 c.session c.there; worker = c.worker; link = c.link }), told_same (what_of_link l).told)

  conn_on : (server : ServerNo) (id : ConnId) (v : What) → ConnIs w.sessions w.seats graves server id v → (u : What) × ConnIs ss w.seats graves server id u × BytesGrow v u
  conn_on server id v (inl h) =
      (v, inl (record { session = h.session; there = session_old w.sessions s h.session.number.0 h.session h.there; conn = h.conn; has = h.has; to = h.to; number = h.number; tells = h.tells }), told_same v.told)
  conn_on server id v (inr r) = (v, inr r, told_same v.told)

  links_admit : LinksGoOn w.sessions ss w.seats w.seats graves graves
  links_admit = record { clients = client_on; conns = conn_on; stay = λ g c. c }

  -- a session that begins has no connection
  held_on : (j : ℕ) (m : SessionNow) (c : Holding) → session_of ss j ≡ Some m → m.conn ≡ Some c → HeldTells c → CoversHeld records c
  held_on j m c is has tells = ⊎_elim
      (λ (was : session_of w.sessions j ≡ Some m). keeps.conns.held j m c was has tells)
      (λ (new : (s.number.0 ≡ j) × (m ≡ s)). let none : None ≡ Some c = ap (λ (z : SessionNow). z.conn) (sym new.1) ∙ has in cc)
      (session_more w.sessions s j m is)

  pub course_admit : KeepsCourse w' net' records graves
  course_admit = subst (λ (z : WorkerNow). KeepsCourse z net' records graves) (sym k.admits) (record {
    alone = keeps.alone;
    buried = subst (λ o. (o ≡ Some (links graves)) ⊎ (o ≡ None)) (sym same) keeps.buried;
    clients = clients_admit w.thread w.last w.sessions records graves n front now.0 client k.number keeps.clients;
    truth = truth_same w.sessions ss w.seats w.seats graves graves records links_admit keeps.truth;
    conns = record { held = held_on; rests = keeps.conns.rests; fresh = keeps.conns.fresh; buried = keeps.conns.buried };
    owners = owners_admit w.thread w.last w.sessions w.seats records graves n front now.0 client k.number dial keeps.owners;
    dials = dials_stay w.sessions ss w.seats w.seats graves graves net net' links_admit (stays_none net.dials net'.dials (inl same_dials)) keeps.dials;
  })
    where
      links : List Grave → List LinkState
      links gs = Rattle.hx_course.specs.Graves.links_of gs

-- ---- links of nobody's, and of connections that the caretaker closed

module _ (w : WorkerNow) (seats' : List History) (graves more : List Grave)
    (rests : (server : ServerNo) (id : ConnId) (v : What) → IsAtRest w.seats server id v → IsAtRest seats' server id v ⊎ IsInGrave more server id v) where
  old_grave : (g : Grave) → Contains graves g → Contains (graves ++ more) g
  old_grave g c = Contains-append_left graves more g c

  client_stays : (t : ThreadNo) (m : SessionNo) (l : LinkState) → ClientIs w.sessions graves t m l → (j : LinkState) × ClientIs w.sessions (graves ++ more) t m j × BytesGrow (what_of_link l) (what_of_link j)
  client_stays t m l (inl c) = (l, inl c, told_same (what_of_link l).told)
  client_stays t m l (inr g) = (l, inr (old_grave (grave (OfClient t m) l) g), told_same (what_of_link l).told)

  conn_stays : (server : ServerNo) (id : ConnId) (v : What) → ConnIs w.sessions w.seats graves server id v → (u : What) × ConnIs w.sessions seats' (graves ++ more) server id u × BytesGrow v u
  conn_stays server id v (inl h) = (v, inl h, told_same v.told)
  conn_stays server id v (inr (inl r)) = ⊎_elim
      (λ (k : IsAtRest seats' server id v). (v, inr (inl k), told_same v.told))
      (λ (g : IsInGrave more server id v).
      (v, inr (inr (record { link = g.link; there = Contains-append_right graves more (grave (OfConn server id) g.link) g.there; tells = g.tells })), told_same v.told))
      (rests server id v r)
  conn_stays server id v (inr (inr g)) = (v, inr (inr (record { link = g.link; there = old_grave (grave (OfConn server id) g.link) g.there; tells = g.tells })), told_same v.told)

  pub links_care : LinksGoOn w.sessions w.sessions w.seats seats' graves (graves ++ more)
  links_care = record { clients = client_stays; conns = conn_stays; stay = old_grave }

-- a client that wasn't admitted is buried
pub course_turned : (w : WorkerNow) (net net' : NetState) (client : LinkState) (records : List Told) (graves : List Grave) → client.dial ≡ None → GainsAll (client ∷ []) net.buried net'.buried → StaysTold net.dials net'.dials
    → KeepsCourse w net records graves → KeepsCourse w net' records (graves ++ grave OfNobody client ∷ [])
course_turned w net net' client records graves dial gains dialled k =
    let more = grave OfNobody client ∷ [] in record {
      alone = k.alone;
      buried = buried_more graves more (client ∷ []) net net' refl k.buried gains;
      clients = clients_more w.thread w.last w.sessions records graves more (λ u n l c. nobody u n l (ap (λ (g : Grave). g.owner) (one_in (grave OfNobody client) (grave (OfClient u n) l) c))) k.clients;
      truth = truth_same w.sessions w.sessions w.seats w.seats graves (graves ++ more) records (links_care w w.seats graves more (λ server id v r. inl r)) k.truth;
      conns = record {
        held = k.conns.held;
        rests = k.conns.rests;
        fresh = k.conns.fresh;
        buried = λ server id l c.
            ⊎_elim (λ (h : Contains graves (grave (OfConn server id) l)). k.conns.buried server id l h)
            (λ (h : Contains more (grave (OfConn server id) l)). absurd (no_conn server id (ap (λ (g : Grave). g.owner) (one_in (grave OfNobody client) (grave (OfConn server id) l) h))))
            (Contains-append_cases graves more (grave (OfConn server id) l) c);
      };
      owners = owners_more w.thread w.last w.sessions w.seats w.seats records graves more refl
          (λ g c. subst (λ (z : Grave). TellsOwner z.owner z.link) (one_in (grave OfNobody client) g c) dial) k.owners.order k.owners;
      dials = dials_stay w.sessions w.sessions w.seats w.seats graves (graves ++ more) net net' (links_care w w.seats graves more (λ server id v r. inl r)) (stays_none net.dials net'.dials dialled) k.dials;
    }
  where
    no_conn : (server : ServerNo) (id : ConnId) → OfNobody ≡ OfConn server id → ⊥
    no_conn server id e = cc

    nobody : (u : ThreadNo) (n : SessionNo) (l : LinkState) → OfNobody ≡ OfClient u n → ⊥
    nobody u n l e = cc

module _ (P : ℕ → History → History → Sweep → Type 0) (cared : (i : ℕ) (old new : History) (x : Sweep) → P i old new x → CaredAt old new x) (w w' : WorkerNow) (net net' : NetState) (count : ℕ)
    (k : Cares P w w' net net' count) (records : List Told) (graves : List Grave) (keeps : KeepsCourse w net records graves) where
  abbrev sweeps : List Sweep
  sweeps = k.cares.sweeps

  abbrev more : List Grave
  more = sweep_graves 0 sweeps

  pub links_cared : LinksGoOn w.sessions w.sessions w.seats w'.seats graves (graves ++ more)
  links_cared = links_care w w'.seats graves more (λ server id v r. rest_on P w.seats w'.seats sweeps cared k.cares.each keeps.alone server id v r)

  order_on : AreInOrder w'.seats
  order_on = all_order_cared P w.seats w'.seats sweeps cared k.cares.each keeps.owners.order

  pub course_cares : KeepsCourse w' net' records (graves ++ more)
  course_cares = record {
    alone = alone_cared P 0 w.seats w'.seats sweeps cared k.cares.each keeps.alone;
    buried = buried_more graves more (all_links sweeps) net net' (all_cared_links P 0 w.seats w'.seats sweeps cared k.cares.each) keeps.buried k.cares.buries.buried;
    clients = subst (λ (th : ThreadNo). KeepsClients th w'.last w'.sessions records (graves ++ more)) (sym k.stays.thread)
        (subst (λ (m : ℕ). KeepsClients w.thread m w'.sessions records (graves ++ more)) (sym k.stays.last)
        (subst (λ (ss : List SessionNow). KeepsClients w.thread w.last ss records (graves ++ more)) (sym k.sessions)
        (clients_more w.thread w.last w.sessions records graves more (sweep_no_client 0 sweeps) keeps.clients)));
    truth = subst (λ (ss : List SessionNow). KeepsTruth ss w'.seats records (graves ++ more)) (sym k.sessions)
        (truth_same w.sessions w.sessions w.seats w'.seats graves (graves ++ more) records links_cared keeps.truth);
    conns = subst (λ (ss : List SessionNow). KeepsConns ss w'.seats records (graves ++ more)) (sym k.sessions)
        (conns_care P cared w.seats w'.seats sweeps k.cares.each keeps.alone w.sessions records graves keeps.conns);
    owners = subst (λ (th : ThreadNo). KeepsOwners th w'.last w'.sessions w'.seats records (graves ++ more)) (sym k.stays.thread)
        (subst (λ (m : ℕ). KeepsOwners w.thread m w'.sessions w'.seats records (graves ++ more)) (sym k.stays.last)
        (subst (λ (ss : List SessionNow). KeepsOwners w.thread w.last ss w'.seats records (graves ++ more)) (sym k.sessions)
        (owners_more w.thread w.last w.sessions w.seats w'.seats records graves more (sweep_clients 0 sweeps) (sweep_dials P w.seats w'.seats sweeps cared k.cares.each order_on) order_on keeps.owners)));
    dials = subst (λ (ss : List SessionNow). KeepsDials ss w'.seats (graves ++ more) net') (sym k.sessions)
        (dials_stay w.sessions w.sessions w.seats w'.seats graves (graves ++ more) net net' links_cared (stays_none net.dials net'.dials k.cares.buries.dials) keeps.dials);
  }

-- a round of the caretaker, and an order
pub course_tick : (w w' : WorkerNow) (net net' : NetState) (now : Millis) (count : ℕ) (k : Cares (TicksAt now) w w' net net' count) (records : List Told) (graves : List Grave) → KeepsCourse w net records graves
    → KeepsCourse w' net' records (graves ++ sweep_graves 0 k.cares.sweeps)
course_tick w w' net net' now count k records graves keeps = course_cares (TicksAt now) (ticks_cared now) w w' net net' count k records graves keeps

pub course_order : (w w' : WorkerNow) (net net' : NetState) (what : Order) (count : ℕ) (k : Cares (OrdersAt what) w w' net net' count) (records : List Told) (graves : List Grave) → KeepsCourse w net records graves
    → KeepsCourse w' net' records (graves ++ sweep_graves 0 k.cares.sweeps)
course_order w w' net net' what count k records graves keeps = course_cares (OrdersAt what) (orders_cared what) w w' net net' count k records graves keeps
