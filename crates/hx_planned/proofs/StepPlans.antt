-- A worker's step keeps that each link follows its plan.
use Rattle.std.proofs.Common.{◌≡◌, ◌⊎◌, ⊎_elim, inl, inr, Bool, true, false, List, ◌++◌, refl, sym, ap, ◌∙◌, subst, Option, Some, None}
use Rattle.std.specs.Prelude.{Contains}
use Rattle.std.proofs.lemmas.List.Elements.{Contains-append_cases}
use Rattle.hx_base.specs.declared.numbers.ConnId.{ConnId}
use Rattle.hx_base.specs.declared.numbers.ServerNo.{ServerNo}
use Rattle.hx_base.specs.declared.numbers.SessionNo.{SessionNo}
use Rattle.hx_base.specs.declared.numbers.ThreadNo.{ThreadNo}
use Rattle.hx_base.specs.declared.plan.Plan.{Plan}
use Rattle.hx_base.specs.declared.what.What.{What}
use Rattle.hx_link.specs.Courses.{Course}
use Rattle.hx_link.specs.Nets.{NetState}
use Rattle.hx_link.specs.Told.{LinkState}
use Rattle.hx_record.specs.declared.served.Served.{Served}
use Rattle.hx_record.specs.declared.served.Told.{Told}
use Rattle.hx_connecting.specs.Exchanges.{ExchangeGoes}
use Rattle.hx_connecting.specs.Links.{NoLinkGoes}
use Rattle.hx_connecting.specs.Sessions.{SessionNow, is_first}
use Rattle.hx_connecting.specs.Touches.{Went, Stays, Rests, Ends, EndsTakenBack, Touch}
use Rattle.hx_session.specs.Doings.{Doing}
use Rattle.hx_session.specs.Touching.{Touches}
use Rattle.hx_session.specs.declared.step.Step.{Step}
use Rattle.hx_worker.specs.Headline.{doing_of}
use Rattle.hx_worker.specs.Steps.{Steps, BuriesClient, gone_of, placed}
use Rattle.hx_worker.specs.Workers.{WorkerNow, session_of}
use Rattle.hx_course.specs.Calls.{HadFor, step_touched, step_graves}
use Rattle.hx_course.specs.Courses.{KeepsCourse}
use Rattle.hx_course.specs.Graves.{Grave, OfClient, OfConn, grave, client_graves}
use Rattle.hx_course.proofs.ClientLemmas.{not_conn}
use Rattle.hx_course.proofs.Numbers.{some_is, found_number}
use Rattle.hx_course.proofs.StepLemmas.{conn_grave_is, no_conn_grave}
use Rattle.hx_course.proofs.TableLemmas.{none_in, one_in}
use Rattle.hx_planned.specs.Plans.{ClientsFollow, ConnsFollow, DialsFollow, LeavesRest, KeepsPlans}
use Rattle.hx_planned.proofs.DialPlans.{dials_stay}
use Rattle.hx_planned.proofs.TouchPlans.{OneGoes, clients_go, conns_go, rest_go, dials_go}

-- ---- graves

-- the grave of the client of a session that is over
pub client_grave_is : (over : Bool) (a : SessionNow) (t : ThreadNo) (n : SessionNo) (l : LinkState) → Contains (client_graves over a) (grave (OfClient t n) l) → (n ≡ a.number) × (l ≡ a.client)
client_grave_is false a t n l c = absurd (none_in (grave (OfClient t n) l) c)
client_grave_is true a t n l c =
    let e = one_in (grave (OfClient a.worker a.number) a.client) (grave (OfClient t n) l) c in
    let o : OfClient a.worker a.number ≡ OfClient t n = ap (λ (g : Grave). g.owner) e in
    (cc, ap (λ (g : Grave). g.link) (sym e))

-- behind a call a client's grave is one of before or that of its session
pub client_from : (graves closed : List Grave) (over : Bool) (a : SessionNow) (t : ThreadNo) → ((n : SessionNo) (l : LinkState) → Contains closed (grave (OfClient t n) l) → ⊥) → (n : SessionNo) (l : LinkState)
    → Contains (graves ++ (closed ++ client_graves over a)) (grave (OfClient t n) l) → Contains graves (grave (OfClient t n) l) ⊎ ((n ≡ a.number) × (l ≡ a.client))
client_from graves closed over a t none n l c =
    let g = grave (OfClient t n) l in
    ⊎_elim (λ (old : Contains graves g). inl old)
    (λ (new : Contains (closed ++ client_graves over a) g).
    ⊎_elim (λ (h : Contains closed g). absurd (none n l h)) (λ (h : Contains (client_graves over a) g). inr (client_grave_is over a t n l h))
    (Contains-append_cases closed (client_graves over a) g new))
    (Contains-append_cases graves (closed ++ client_graves over a) g c)

-- and a connection's one of before or one of those that the call closed
pub conn_from : (graves closed : List Grave) (over : Bool) (a : SessionNow) (server : ServerNo) (id : ConnId) (l : LinkState)
    → Contains (graves ++ (closed ++ client_graves over a)) (grave (OfConn server id) l) → Contains graves (grave (OfConn server id) l) ⊎ Contains closed (grave (OfConn server id) l)
conn_from graves closed over a server id l c =
    let g = grave (OfConn server id) l in
    ⊎_elim (λ (old : Contains graves g). inl old)
    (λ (new : Contains (closed ++ client_graves over a) g).
    ⊎_elim (λ (h : Contains closed g). inr h) (λ (h : Contains (client_graves over a) g). absurd (no_conn_grave over a server id l h))
    (Contains-append_cases closed (client_graves over a) g new))
    (Contains-append_cases graves (closed ++ client_graves over a) g c)

-- the burial of a client leaves what is to come
pub course_buried : (over : Bool) (client : LinkState) (mid net' : NetState) → BuriesClient over client mid net' → net'.course ≡ mid.course
course_buried false client mid net' b = ap (λ (z : NetState). z.course) b
course_buried true client mid net' b = b.1.course

pub dials_buried : (plans : List Plan) (over : Bool) (client : LinkState) (mid net' : NetState) → BuriesClient over client mid net' → DialsFollow plans mid.dials → DialsFollow plans net'.dials
dials_buried plans false client mid net' b = dials_stay plans mid.dials net'.dials (inl (ap (λ (z : NetState). z.dials) b))
dials_buried plans true client mid net' b = dials_stay plans mid.dials net'.dials b.1.dials

-- ---- the touched connection of a step

had_for : (s a : SessionNow) (y : Touch) (w : Went) (before : Option What) (served : Option Served) → ExchangeGoes s a y w before served → HadFor w y.came
had_for s a y Stays before served e = tt
had_for s a y (Rests place uses) before served e = e.2
had_for s a y Ends before served e = tt
had_for s a y (EndsTakenBack place uses) before served e = e

abbrev Goes : Doing → Option LinkState → Touch → Type 0
Goes d gone y = (k : OneGoes d.old d.new d.after.seats d.added d.before.net d.after.net y) × (gone ≡ k.goes.gone)

step_one : (d : Doing) (x : Option Touch) (t : Touches d x) (y : Touch) → x ≡ Some y → Goes d (gone_of d x t) y
step_one d None t y e = cc
step_one d (Some z) t y e = subst (λ (q : Touch). Goes d t.goes.gone q) (some_is z y e)
    (record { history = t.at.history; es = t.at.es; seat = t.at.seat; entries = t.at.entries; goes = t.goes; had = had_for d.old d.new z z.went t.goes.before d.served t.exchange }, refl)

step_none : (d : Doing) (x : Option Touch) → Touches d x → x ≡ None → NoLinkGoes d.old d.new d.before.net d.after.net
step_none d None t e = t.0
step_none d (Some z) t e = cc

step_no_client : (d : Doing) (x : Option Touch) (t : Touches d x) (u : ThreadNo) (n : SessionNo) (l : LinkState) → Contains (step_touched d x t) (grave (OfClient u n) l) → ⊥
step_no_client d None t u n l c = none_in (grave (OfClient u n) l) c
step_no_client d (Some z) t u n l c = not_conn z.server z.id t.goes.gone u n l c

step_new : (d : Doing) (x : Option Touch) (t : Touches d x) (server : ServerNo) (id : ConnId) (l : LinkState) → Contains (step_touched d x t) (grave (OfConn server id) l)
    → (y : Touch) × (x ≡ Some y) × (server ≡ y.server) × (id ≡ y.id) × (gone_of d x t ≡ Some l)
step_new d None t server id l c = absurd (none_in (grave (OfConn server id) l) c)
step_new d (Some z) t server id l c = let r = conn_grave_is z t.goes.gone server id l c in (z, refl, r.0, r.1, r.2)

-- ---- the step

module _ (w w' : WorkerNow) (net net' : NetState) (n : SessionNo) (r : Step) (k : Steps w w' net net' n r) (records : List Told) (came plans : List Plan) (graves : List Grave)
    (keeps : KeepsCourse w net records graves) (have : KeepsPlans came plans w net graves) where
  abbrev s : SessionNow
  s = k.session

  abbrev a : SessionNow
  a = k.after

  abbrev d : Doing
  d = doing_of w w' net net' n r k

  abbrev x : Option Touch
  x = k.step.links.touches.touch

  abbrev t : Touches d x
  t = k.step.links.touches.touched

  abbrev closed : List Grave
  closed = step_touched d x t

  abbrev more : List Grave
  more = step_graves w w' net net' n r k

  abbrev c : Course
  c = have.next.0

  there : session_of w.sessions s.number.0 ≡ Some s
  there = ap (session_of w.sessions) (found_number w.sessions n.0 s k.there) ∙ k.there

  conn_grave : (server : ServerNo) (id : ConnId) (l : LinkState) → Contains (graves ++ more) (grave (OfConn server id) l)
      → Contains graves (grave (OfConn server id) l) ⊎ ((y : Touch) × (x ≡ Some y) × (server ≡ y.server) × (id ≡ y.id) × (gone_of d x t ≡ Some l))
  conn_grave server id l g = ⊎_elim (λ (old : Contains graves (grave (OfConn server id) l)). inl old) (λ (new : Contains closed (grave (OfConn server id) l)). inr (step_new d x t server id l new))
      (conn_from graves closed a.over a server id l g)

  clients_step : ClientsFollow came (placed w.sessions a) (graves ++ more) w.thread
  clients_step = clients_go came w.sessions w.last s a graves (graves ++ more) w.thread keeps.owners.rise there k.step.same.session.worker k.step.same.session.number k.step.same.session.client.plan
      (keeps.owners.its s.number.0 s there) (client_from graves closed a.over a w.thread (λ m l. step_no_client d x t w.thread m l)) have.clients

  conns_step : ConnsFollow plans (placed w.sessions a) w'.seats (graves ++ more)
  conns_step = conns_go plans w.sessions w.last s a w.seats w'.seats d.added (is_first s) net k.mid x (gone_of d x t) graves (graves ++ more) keeps.owners.rise there
      k.step.same.session.worker k.step.same.session.number k.step.links.touches.adds keeps.alone (step_none d x t) (step_one d x t) conn_grave have.conns c have.next.1 have.next.2

  rest_step : (q : Course) × (k.mid.course ≡ Some q) × LeavesRest plans w'.seats q.plans
  rest_step = rest_go plans w.sessions w.last s a w.seats w'.seats d.added (is_first s) net k.mid x (gone_of d x t) graves (graves ++ more) keeps.owners.rise there
      k.step.same.session.worker k.step.same.session.number k.step.links.touches.adds keeps.alone (step_none d x t) (step_one d x t) conn_grave have.conns c have.next.1 have.next.2

  dials_step : DialsFollow plans k.mid.dials
  dials_step = dials_go plans w.sessions w.last s a w.seats w'.seats d.added (is_first s) net k.mid x (gone_of d x t) graves (graves ++ more) keeps.owners.rise there
      k.step.same.session.worker k.step.same.session.number k.step.links.touches.adds keeps.alone (step_none d x t) (step_one d x t) conn_grave have.conns c have.next.1 have.next.2 have.dials

  pub plans_step : KeepsPlans came plans w' net' (graves ++ more)
  plans_step = record {
    count = k.stays.last ∙ have.count;
    clients = subst (λ (th : ThreadNo). ClientsFollow came w'.sessions (graves ++ more) th) (sym k.stays.thread)
        (subst (λ (ss : List SessionNow). ClientsFollow came ss (graves ++ more) w.thread) (sym k.sessions) clients_step);
    conns = subst (λ (ss : List SessionNow). ConnsFollow plans ss w'.seats (graves ++ more)) (sym k.sessions) conns_step;
    dials = dials_buried plans a.over a.client k.mid net' k.buries dials_step;
    next = (rest_step.0, course_buried a.over a.client k.mid net' k.buries ∙ rest_step.1, rest_step.2);
  }
