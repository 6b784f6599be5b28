-- The stop of a worker's session keeps that each link follows its plan.
use Rattle.std.proofs.Common.{◌≡◌, ◌⊎◌, ⊎_elim, inl, inr, Bool, true, List, ◌∷◌, ◌++◌, refl, sym, ap, ◌∙◌, subst, Option, Some, None, eq-eqb}
use Rattle.std.specs.Prelude.{Contains, if◌then◌else◌}
use Rattle.hx_base.specs.declared.numbers.ConnId.{ConnId}
use Rattle.hx_base.specs.declared.numbers.ServerNo.{ServerNo}
use Rattle.hx_base.specs.declared.numbers.SessionNo.{SessionNo}
use Rattle.hx_base.specs.declared.numbers.ThreadNo.{ThreadNo}
use Rattle.hx_base.specs.declared.plan.Plan.{Plan}
use Rattle.hx_link.specs.Courses.{Course}
use Rattle.hx_link.specs.Nets.{NetState}
use Rattle.hx_link.specs.Told.{LinkState}
use Rattle.hx_record.specs.declared.served.Served.{Served}
use Rattle.hx_record.specs.declared.served.Told.{Told}
use Rattle.hx_connecting.specs.Links.{NoLinkGoes}
use Rattle.hx_connecting.specs.Sessions.{SessionNow, is_first}
use Rattle.hx_connecting.specs.Touches.{Came, Went, Ends, Touch}
use Rattle.hx_session.specs.Doings.{Doing}
use Rattle.hx_session.specs.Stopping.{StopTouches}
use Rattle.hx_session.specs.Telling.{stopped}
use Rattle.hx_worker.proofs.ByNumber.{session_here}
use Rattle.hx_worker.specs.declared.answers.Stopped.{Stopped}
use Rattle.hx_worker.specs.Steps.{placed}
use Rattle.hx_worker.specs.Stops.{StopsOne, stop_gone_of}
use Rattle.hx_worker.specs.Workers.{WorkerNow, session_of}
use Rattle.hx_course.specs.Calls.{HadFor, stop_touched, stopping_of, stop_graves}
use Rattle.hx_course.specs.Courses.{KeepsCourse}
use Rattle.hx_course.specs.Graves.{Grave, OfClient, OfConn, grave}
use Rattle.hx_course.proofs.ClientLemmas.{not_conn}
use Rattle.hx_course.proofs.Numbers.{some_is}
use Rattle.hx_course.proofs.StepLemmas.{conn_grave_is}
use Rattle.hx_course.proofs.TableLemmas.{none_in}
use Rattle.hx_planned.specs.Plans.{ClientsFollow, ConnsFollow, DialsFollow, LeavesRest, KeepsPlans}
use Rattle.hx_planned.proofs.StepPlans.{client_from, conn_from, course_buried, dials_buried}
use Rattle.hx_planned.proofs.TouchPlans.{OneGoes, clients_go, conns_go, rest_go, dials_go}

-- ---- a stopped session

stopped_over : (s : SessionNow) (c : LinkState) (o : Option Served) → (stopped s c o).over ≡ true
stopped_over s c None = refl
stopped_over s c (Some r) = refl

stopped_worker : (s : SessionNow) (c : LinkState) (o : Option Served) → (stopped s c o).worker ≡ s.worker
stopped_worker s c None = refl
stopped_worker s c (Some r) = refl

stopped_number : (s : SessionNow) (c : LinkState) (o : Option Served) → (stopped s c o).number ≡ s.number
stopped_number s c None = refl
stopped_number s c (Some r) = refl

stopped_client : (s : SessionNow) (c : LinkState) (o : Option Served) → (stopped s c o).client ≡ c
stopped_client s c None = refl
stopped_client s c (Some r) = refl

-- the session that is placed over itself is gone
placed_over : (s a : SessionNow) (rest : List SessionNow) → a.number ≡ s.number → a.over ≡ true → placed (s ∷ rest) a ≡ rest
placed_over s a rest e over =
    ap (λ (b : Bool). if b then (if a.over then rest else a ∷ rest) else s ∷ placed rest a) (eq-eqb s.number.0 a.number.0 (sym (ap (λ (k : SessionNo). k.0) e)))
    ∙ ap (λ (b : Bool). if b then rest else a ∷ rest) over

-- ---- the connection that it closed

had_ends : (w : Went) (q : Came) → w ≡ Ends → HadFor w q
had_ends w q e = subst (λ (v : Went). HadFor v q) (sym e) tt

abbrev Goes : Doing → Option LinkState → Touch → Type 0
Goes d gone y = (k : OneGoes d.old d.new d.after.seats d.added d.before.net d.after.net y) × (gone ≡ k.goes.gone)

stop_one : (d : Doing) (x : Option Touch) (t : StopTouches d x) (y : Touch) → x ≡ Some y → Goes d (stop_gone_of d x t) y
stop_one d None t y e = cc
stop_one d (Some z) t y e = subst (λ (q : Touch). Goes d t.goes.gone q) (some_is z y e)
    (record { history = t.at.history; es = t.at.es; seat = t.at.seat; entries = t.at.entries; goes = t.goes; had = had_ends z.went z.came t.went }, refl)

stop_none : (d : Doing) (x : Option Touch) → StopTouches d x → x ≡ None → NoLinkGoes d.old d.new d.before.net d.after.net
stop_none d None t e = t.1
stop_none d (Some z) t e = cc

stop_no_client : (d : Doing) (x : Option Touch) (t : StopTouches d x) (u : ThreadNo) (n : SessionNo) (l : LinkState) → Contains (stop_touched d x t) (grave (OfClient u n) l) → ⊥
stop_no_client d None t u n l c = none_in (grave (OfClient u n) l) c
stop_no_client d (Some z) t u n l c = not_conn z.server z.id t.goes.gone u n l c

stop_new : (d : Doing) (x : Option Touch) (t : StopTouches d x) (server : ServerNo) (id : ConnId) (l : LinkState) → Contains (stop_touched d x t) (grave (OfConn server id) l)
    → (y : Touch) × (x ≡ Some y) × (server ≡ y.server) × (id ≡ y.id) × (stop_gone_of d x t ≡ Some l)
stop_new d None t server id l c = absurd (none_in (grave (OfConn server id) l) c)
stop_new d (Some z) t server id l c = let r = conn_grave_is z t.goes.gone server id l c in (z, refl, r.0, r.1, r.2)

-- ---- the stop

module _ (w w' : WorkerNow) (net net' : NetState) (x : Stopped) (k : StopsOne w w' net net' x) (records : List Told) (came plans : List Plan) (graves : List Grave)
    (keeps : KeepsCourse w net records graves) (have : KeepsPlans came plans w net graves) where
  abbrev s : SessionNow
  s = k.session

  abbrev a : SessionNow
  a = stopped s k.client x.served

  abbrev d : Doing
  d = stopping_of w w' net net' x k

  abbrev z : Option Touch
  z = (k.stop.links w.turns).touch

  abbrev t : StopTouches d z
  t = (k.stop.links w.turns).touched

  abbrev closed : List Grave
  closed = stop_touched d z t

  abbrev more : List Grave
  more = stop_graves w w' net net' x k

  abbrev c : Course
  c = have.next.0

  there : session_of w.sessions s.number.0 ≡ Some s
  there = ap (λ ss. session_of ss s.number.0) k.least ∙ session_here s k.others s.number.0 refl

  worker : a.worker ≡ s.worker
  worker = stopped_worker s k.client x.served

  number : a.number ≡ s.number
  number = stopped_number s k.client x.served

  gone : placed w.sessions a ≡ w'.sessions
  gone = ap (λ ss. placed ss a) k.least ∙ (placed_over s a k.others number (stopped_over s k.client x.served) ∙ sym k.sessions)

  plan : a.client.plan ≡ s.client.plan
  plan = ap (λ (l : LinkState). l.plan) (stopped_client s k.client x.served) ∙ k.stop.stops.same.plan

  conn_grave : (server : ServerNo) (id : ConnId) (l : LinkState) → Contains (graves ++ more) (grave (OfConn server id) l)
      → Contains graves (grave (OfConn server id) l) ⊎ ((y : Touch) × (z ≡ Some y) × (server ≡ y.server) × (id ≡ y.id) × (stop_gone_of d z t ≡ Some l))
  conn_grave server id l g = ⊎_elim (λ (old : Contains graves (grave (OfConn server id) l)). inl old) (λ (new : Contains closed (grave (OfConn server id) l)). inr (stop_new d z t server id l new))
      (conn_from graves closed true a server id l g)

  clients_stop : ClientsFollow came (placed w.sessions a) (graves ++ more) w.thread
  clients_stop = clients_go came w.sessions w.last s a graves (graves ++ more) w.thread keeps.owners.rise there worker number plan
      (keeps.owners.its s.number.0 s there) (client_from graves closed true a w.thread (λ m l. stop_no_client d z t w.thread m l)) have.clients

  conns_stop : ConnsFollow plans (placed w.sessions a) w'.seats (graves ++ more)
  conns_stop = conns_go plans w.sessions w.last s a w.seats w'.seats d.added (is_first s) net k.mid z (stop_gone_of d z t) graves (graves ++ more) keeps.owners.rise there worker number
      (k.stop.links w.turns).adds keeps.alone (stop_none d z t) (stop_one d z t) conn_grave have.conns c have.next.1 have.next.2

  rest_stop : (q : Course) × (k.mid.course ≡ Some q) × LeavesRest plans w'.seats q.plans
  rest_stop = rest_go plans w.sessions w.last s a w.seats w'.seats d.added (is_first s) net k.mid z (stop_gone_of d z t) graves (graves ++ more) keeps.owners.rise there worker number
      (k.stop.links w.turns).adds keeps.alone (stop_none d z t) (stop_one d z t) conn_grave have.conns c have.next.1 have.next.2

  dials_stop : DialsFollow plans k.mid.dials
  dials_stop = dials_go plans w.sessions w.last s a w.seats w'.seats d.added (is_first s) net k.mid z (stop_gone_of d z t) graves (graves ++ more) keeps.owners.rise there worker number
      (k.stop.links w.turns).adds keeps.alone (stop_none d z t) (stop_one d z t) conn_grave have.conns c have.next.1 have.next.2 have.dials

  pub plans_stop : KeepsPlans came plans w' net' (graves ++ more)
  plans_stop = record {
    count = k.stays.last ∙ have.count;
    clients = subst (λ (th : ThreadNo). ClientsFollow came w'.sessions (graves ++ more) th) (sym k.stays.thread)
        (subst (λ (ss : List SessionNow). ClientsFollow came ss (graves ++ more) w.thread) gone clients_stop);
    conns = subst (λ (ss : List SessionNow). ConnsFollow plans ss w'.seats (graves ++ more)) gone conns_stop;
    dials = dials_buried plans true k.client k.mid net' k.buries dials_stop;
    next = (rest_stop.0, course_buried true k.client k.mid net' k.buries ∙ rest_stop.1, rest_stop.2);
  }
