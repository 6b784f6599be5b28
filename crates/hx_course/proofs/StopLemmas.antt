-- The stop of a worker's session keeps what holds of a course.
use Rattle.std.proofs.Common.{◌≡◌, ◌⊎◌, ⊎_elim, inl, inr, ℕ, Bool, true, List, [], ◌∷◌, ◌++◌, refl, sym, ap, ◌∙◌, subst, Option, Some, None, eq-eqb}
use Rattle.std.specs.Prelude.{IfSome, Contains, if◌then◌else◌}
use Rattle.std.proofs.lemmas.List.Elements.{Contains-append_cases, Contains-append_left, Contains-append_right, Contains-push}
use Rattle.hx_base.specs.declared.numbers.ConnId.{ConnId}
use Rattle.hx_base.specs.declared.numbers.ServerNo.{ServerNo}
use Rattle.hx_base.specs.declared.numbers.SessionNo.{SessionNo}
use Rattle.hx_base.specs.declared.numbers.ThreadNo.{ThreadNo}
use Rattle.hx_base.specs.declared.what.LinkTold.{LinkTold}
use Rattle.hx_base.specs.declared.what.What.{What}
use Rattle.hx_conn.specs.WhatTold.{what_of_link}
use Rattle.hx_link.specs.Nets.{NetState}
use Rattle.hx_link.specs.Told.{LinkState}
use Rattle.hx_record.specs.declared.served.Kind.{Kind}
use Rattle.hx_record.specs.declared.served.Kind.TheVariants as kind
use Rattle.hx_record.specs.declared.served.LeftCause.{LeftCause}
use Rattle.hx_record.specs.declared.served.Served.{Served}
use Rattle.hx_record.specs.declared.served.Told.{Told}
use Rattle.hx_record.specs.declared.served.Left.{Left}
use Rattle.hx_connecting.specs.Exchanges.{IsClosed, ExchangeGoes, PassedEnds}
use Rattle.hx_connecting.specs.Links.{NoLinkGoes}
use Rattle.hx_connecting.specs.Sessions.{SessionNow, is_first}
use Rattle.hx_connecting.specs.Touches.{Came, Had, Went, Ends, Touch, HasMarks}
use Rattle.hx_connecting.specs.Ways.{IsOwn}
use Rattle.hx_session.specs.Doings.{Doing}
use Rattle.hx_session.specs.Records.{leaves_for}
use Rattle.hx_session.specs.Stopping.{StopsConn, StopTouches, StopsKind, stopped_of}
use Rattle.hx_session.specs.Telling.{KindTold, RecordsTold, stopped}
use Rattle.hx_worker.specs.declared.answers.Stopped.{Stopped}
use Rattle.hx_worker.specs.Steps.{buried_with, placed}
use Rattle.hx_worker.specs.Stops.{StopsOne, stop_gone_of}
use Rattle.hx_worker.specs.Workers.{WorkerNow, HasSeats, session_of}
use Rattle.hx_worker.proofs.ByNumber.{session_here}
use Rattle.hx_course.specs.Calls.{HadFor, TookLast, TouchGoes, EndsExchange, stop_touched, stopping_of, stop_graves}
use Rattle.hx_course.specs.Clients.{KeepsClients}
use Rattle.hx_course.specs.Conns.{KeepsConns}
use Rattle.hx_course.specs.Courses.{KeepsCourse}
use Rattle.hx_course.specs.Graves.{Grave, OfClient, OfConn, grave, links_of, conn_graves, client_graves, clients_of, TellsOwner}
use Rattle.hx_course.specs.Lines.{lines_of}
use Rattle.hx_course.specs.Owners.{KeepsOwners}
use Rattle.hx_course.proofs.DialLemmas.{dials_stay, then_stays, stop_dialled}
use Rattle.hx_course.specs.Places.{KeepsDials, ToldGrows, BytesGrow, LinksGoOn}
use Rattle.hx_course.specs.Truths.{IsTrueNow, KeepsTruth}
use Rattle.hx_course.proofs.ClientLemmas.{clients_go, not_conn}
use Rattle.hx_course.proofs.ConnLemmas.{its_over, its_record, held_in, conns_go}
use Rattle.hx_course.proofs.GoingLemmas.{links_on, record_now}
use Rattle.hx_course.proofs.Numbers.{some_is}
use Rattle.hx_course.proofs.OwnerLemmas.{conn_clients, conn_dials, owners_go}
use Rattle.hx_course.proofs.StepLemmas.{dial_of, in_order, conn_grave_is, no_conn_grave, conn_links, buried_more, alone_after, all_told}
use Rattle.hx_course.proofs.TableLemmas.{none_in}
use Rattle.hx_course.proofs.TruthLemmas.{told_same, truth_on}

-- ---- a stopped session

stopped_over : (s : SessionNow) (c : LinkState) (o : Option Served) → (stopped s c o).over ≡ true
stopped_over s c None = refl
stopped_over s c (Some r) = refl

stopped_worker : (s : SessionNow) (c : LinkState) (o : Option Served) → (stopped s c o).worker ≡ s.worker
stopped_worker s c None = refl
stopped_worker s c (Some r) = refl

stopped_number : (s : SessionNow) (c : LinkState) (o : Option Served) → (stopped s c o).number ≡ s.number
stopped_number s c None = refl
stopped_number s c (Some r) = refl

stopped_conn : (s : SessionNow) (c : LinkState) (o : Option Served) → (stopped s c o).conn ≡ None
stopped_conn s c None = refl
stopped_conn s c (Some r) = refl

stopped_client : (s : SessionNow) (c : LinkState) (o : Option Served) → (stopped s c o).client ≡ c
stopped_client s c None = refl
stopped_client s c (Some r) = refl

-- the session that is placed over itself is gone
placed_over : (s a : SessionNow) (rest : List SessionNow) → a.number ≡ s.number → a.over ≡ true → placed (s ∷ rest) a ≡ rest
placed_over s a rest e over =
    ap (λ (b : Bool). if b then (if a.over then rest else a ∷ rest) else s ∷ placed rest a) (eq-eqb s.number.0 a.number.0 (sym (ap (λ (k : SessionNo). k.0) e)))
    ∙ ap (λ (b : Bool). if b then rest else a ∷ rest) over

-- ---- the connection that it closed

abbrev Touched : Doing → List Grave → Option What → Option LinkState → Touch → Type 0
Touched d graves conn gone y =
    (k : TouchGoes d.old d.new d.before.seats d.after.seats d.added d.before.net d.after.net y)
    × ((l : LinkState) → k.goes.gone ≡ Some l → Contains graves (grave (OfConn y.server y.id) l)) × (conn ≡ k.goes.after) × (gone ≡ k.goes.gone)

had_ends : (w : Went) (c : Came) → w ≡ Ends → HadFor w c
had_ends w c e = subst (λ (v : Went). HadFor v c) (sym e) tt

took_had : (d : Doing) (z : Touch) (w : Option What) → z.came ≡ Had → TookLast d.before.seats z.server z.id z.came w
took_had d z w e = subst (λ (c : Came). TookLast d.before.seats z.server z.id c w) (sym e) tt

touched_one : (d : Doing) (z : Touch) (t : StopsConn d z) → Touched d (conn_graves z.server z.id t.goes.gone) t.goes.after t.goes.gone z
touched_one d z t = (
  record {
    history = t.at.history;
    es = t.at.es;
    seat = t.at.seat;
    entries = t.at.entries;
    goes = t.goes;
    had = had_ends z.went z.came t.went;
    took = took_had d z t.goes.before t.came;
  },
  λ l e. subst (λ (o : Option LinkState). Contains (conn_graves z.server z.id o) (grave (OfConn z.server z.id) l)) (sym e) (Contains-push [] (grave (OfConn z.server z.id) l)),
  refl,
  refl,
)

touched_some : (d : Doing) (x : Option Touch) (t : StopTouches d x) (y : Touch) → x ≡ Some y → Touched d (stop_touched d x t) (stopped_of d x t) (stop_gone_of d x t) y
touched_some d None t y e = cc
touched_some d (Some z) t y e = subst (λ (q : Touch). Touched d (conn_graves z.server z.id t.goes.gone) t.goes.after t.goes.gone q) (some_is z y e) (touched_one d z t)

touched_none : (d : Doing) (x : Option Touch) → StopTouches d x → x ≡ None → NoLinkGoes d.old d.new d.before.net d.after.net
touched_none d None t e = t.1
touched_none d (Some z) t e = cc

no_conn : (d : Doing) (x : Option Touch) → StopTouches d x → x ≡ None → d.old.conn ≡ None
no_conn d None t e = t.0
no_conn d (Some z) t e = cc

went_ends : (d : Doing) (x : Option Touch) → StopTouches d x → (y : Touch) → x ≡ Some y → IsClosed y.went
went_ends d None t y e = cc
went_ends d (Some z) t y e = subst (λ (w : Went). IsClosed w) (sym (ap (λ (q : Touch). q.went) (sym (some_is z y e)) ∙ t.went)) tt

-- without a connection there is no record of an exchange
own_kind : (s a : SessionNow) (conn : Option What) (why : LeftCause) (r : Served) (k : Kind) → s.conn ≡ None → KindTold s a conn why r k → IsOwn k
own_kind s a conn why r (kind.Passed c) e t = let no = sym e ∙ t.0.1 in cc
own_kind s a conn why r (kind.Cut c w) e t = let no = sym e ∙ t.0.1 in cc
own_kind s a conn why r (kind.Own status) e t = tt

kind_ends : (s : SessionNow) (client : LinkState) (after : Option What) (y : Touch) (r : Served) (k : Kind) → StopsKind s k → IsClosed y.went → EndsExchange y.went client after r k
kind_ends s client after y r (kind.Passed c) k e = absurd k
kind_ends s client after y r (kind.Cut c why) k e = e
kind_ends s client after y r (kind.Own status) k e = tt

stop_links : (d : Doing) (x : Option Touch) (t : StopTouches d x) (a : SessionNow) → links_of (stop_touched d x t ++ client_graves true a) ≡ buried_with (stop_gone_of d x t) true a.client
stop_links d None t a = refl
stop_links d (Some x) t a = conn_links x.server x.id t.goes.gone true a

stop_no_client : (d : Doing) (x : Option Touch) (t : StopTouches d x) (u : ThreadNo) (n : SessionNo) (l : LinkState) → Contains (stop_touched d x t) (grave (OfClient u n) l) → ⊥
stop_no_client d None t u n l c = none_in (grave (OfClient u n) l) c
stop_no_client d (Some x) t u n l c = not_conn x.server x.id t.goes.gone u n l c

stop_new : (d : Doing) (x : Option Touch) (t : StopTouches d x) (server : ServerNo) (id : ConnId) (l : LinkState) → Contains (stop_touched d x t) (grave (OfConn server id) l)
    → (y : Touch) × (x ≡ Some y) × (server ≡ y.server) × (id ≡ y.id) × (stop_gone_of d x t ≡ Some l)
stop_new d None t server id l c = absurd (none_in (grave (OfConn server id) l) c)
stop_new d (Some z) t server id l c = let r = conn_grave_is z t.goes.gone server id l c in (z, refl, r.0, r.1, r.2)

went_is : (d : Doing) (x : Option Touch) → StopTouches d x → (y : Touch) → x ≡ Some y → y.went ≡ Ends
went_is d None t y e = cc
went_is d (Some z) t y e = ap (λ (q : Touch). q.went) (sym (some_is z y e)) ∙ t.went

exch_ends : (s a : SessionNow) (y : Touch) (before : Option What) (served : Option Served) → y.went ≡ Ends → ExchangeGoes s a y y.went before served
exch_ends s a y before served e = subst (λ (w : Went). ExchangeGoes s a y w before served) (sym e) tt

passed_stop : (s : SessionNow) (y : Touch) (after : Option What) (served : Option Served) → IsClosed y.went → IfSome served (λ r. StopsKind s r.kind) → IfSome served (λ r. PassedEnds s y after r.kind)
passed_stop s y after None c k = tt
passed_stop s y after (Some r) c k = by_kind r.kind k
  where
    by_kind : (z : Kind) → StopsKind s z → PassedEnds s y after z
    by_kind (kind.Passed q) h = absurd h
    by_kind (kind.Cut q why) h = c
    by_kind (kind.Own status) h = inl c

own_stop : (s a : SessionNow) (conn : Option What) (left : Option Left) (served : Option Served) → s.conn ≡ None → RecordsTold s a conn left served → IfSome served (λ r. IsOwn r.kind)
own_stop s a conn left None e t = tt
own_stop s a conn left (Some r) e t = own_kind s a conn (leaves_for left) r r.kind e t.kind

stop_dials : (d : Doing) (x : Option Touch) (t : StopTouches d x) (g : Grave) → Contains (stop_touched d x t) g → TellsOwner g.owner g.link
stop_dials d None t g c = absurd (none_in g c)
stop_dials d (Some z) t g c = conn_dials z.server z.id t.goes.gone (λ l e. dial_of d.new t.at.es z z.went t.goes.gone t.goes.after l t.goes.is e) g c

stop_clients : (d : Doing) (x : Option Touch) (t : StopTouches d x) → clients_of (stop_touched d x t) ≡ []
stop_clients d None t = refl
stop_clients d (Some z) t = conn_clients z.server z.id t.goes.gone

module _ (w w' : WorkerNow) (net net' : NetState) (x : Stopped) (k : StopsOne w w' net net' x) (records : List Told) (graves : List Grave) (seats : HasSeats w)
    (keeps : KeepsCourse w net records graves) where
  abbrev s : SessionNow
  s = k.session

  abbrev a : SessionNow
  a = stopped s k.client x.served

  abbrev d : Doing
  d = stopping_of w w' net net' x k

  abbrev z : Option Touch
  z = (k.stop.links w.turns).touch

  abbrev t : StopTouches d z
  t = (k.stop.links w.turns).touched

  abbrev closed : List Grave
  closed = stop_touched d z t

  abbrev more : List Grave
  more = stop_graves w w' net net' x k

  abbrev lines : List Told
  lines = lines_of x.served (Some x.left)

  over : a.over ≡ true
  over = stopped_over s k.client x.served

  worker : a.worker ≡ s.worker
  worker = stopped_worker s k.client x.served

  number : a.number ≡ s.number
  number = stopped_number s k.client x.served

  first : session_of w.sessions s.number.0 ≡ Some s
  first = ap (λ ss. session_of ss s.number.0) k.least ∙ session_here s k.others s.number.0 refl

  its : s.worker ≡ w.thread
  its = keeps.owners.its s.number.0 s first

  gone : placed w.sessions a ≡ w'.sessions
  gone = ap (λ ss. placed ss a) k.least ∙ (placed_over s a k.others number over ∙ sym k.sessions)

  touched : (y : Touch) → z ≡ Some y → Touched d closed (stopped_of d z t) (stop_gone_of d z t) y
  touched y e = touched_some d z t y e

  old_grave : (g : Grave) → Contains graves g → Contains (graves ++ more) g
  old_grave g c = Contains-append_left graves more g c

  client_grave : a.over ≡ true → Contains (graves ++ more) (grave (OfClient a.worker a.number) a.client)
  client_grave o =
      let g = grave (OfClient a.worker a.number) a.client in
      Contains-append_right graves more g (Contains-append_right closed (client_graves true a) g (Contains-push [] g))

  conn_grave : (g : Grave) → Contains closed g → Contains (graves ++ more) g
  conn_grave g c = Contains-append_right graves more g (Contains-append_left closed (client_graves true a) g c)

  some_touch : (y : Touch) → z ≡ Some y
      → (q : TouchGoes s a w.seats w'.seats d.added net k.mid y) × ((l : LinkState) → q.goes.gone ≡ Some l → Contains (graves ++ more) (grave (OfConn y.server y.id) l))
  some_touch y e = let q = touched y e in (q.0, λ l f. conn_grave (grave (OfConn y.server y.id) l) (q.1 l f))

  empty : a.over ≡ true → a.conn ≡ None
  empty o = stopped_conn s k.client x.served

  -- the client's link carries what it carried
  client : BytesGrow (what_of_link s.client) (what_of_link a.client)
  client =
      let is : a.client ≡ record s.client { on_loop = None; faults = k.client.faults } = stopped_client s k.client x.served ∙ k.stop.stops.link in
      let same : (what_of_link s.client).told ≡ (what_of_link a.client).told = sym (ap (λ (l : LinkState). (what_of_link l).told) is) in
      subst (λ (o : Option LinkTold). ToldGrows (what_of_link s.client).told o) same (told_same (what_of_link s.client).told)

  pub links_stop : LinksGoOn w.sessions (placed w.sessions a) w.seats w'.seats graves (graves ++ more)
  links_stop = links_on w.sessions w.last s a w.seats w'.seats d.added (is_first s) net k.mid z graves (graves ++ more) keeps.owners.rise first worker number empty
      (k.stop.links w.turns).adds keeps.alone client old_grave client_grave (touched_none d z t) some_touch

  new_record : (v : Served) → x.served ≡ Some v → IsTrueNow (placed w.sessions a) w'.seats (records ++ lines) (graves ++ more) v v.kind
  unfolding some_touch touched
  new_record v e =
      let told : RecordsTold s a (stopped_of d z t) (Some x.left) (Some v) = subst (λ (o : Option Served). RecordsTold s a (stopped_of d z t) (Some x.left) o) e (k.stop.links w.turns).records in
      let kinds : StopsKind s v.kind = subst (λ (o : Option Served). IfSome o (λ q. StopsKind s q.kind)) e k.stop.tells.kind in
      subst (λ (o : Option Served). IsTrueNow (placed w.sessions a) w'.seats (records ++ lines_of o (Some x.left)) (graves ++ more) v v.kind) (sym e)
      (record_now w.sessions w.last s a w.seats w'.seats d.added (is_first s) net k.mid z graves (graves ++ more) keeps.owners.rise first worker number empty
      (k.stop.links w.turns).adds keeps.alone client old_grave client_grave (touched_none d z t) some_touch
      records (stopped_of d z t) (Some x.left) v told k.stop.tells.leaves
      (λ none. own_kind s a (stopped_of d z t) (leaves_for (Some x.left)) v v.kind (no_conn d z t none) told.kind) (λ y f. (touched y f).2)
      (λ y f. kind_ends s a.client (stopped_of d z t) y v v.kind kinds (went_ends d z t y f)))

  truth_stop : KeepsTruth (placed w.sessions a) w'.seats (records ++ lines) (graves ++ more)
  truth_stop = all_told (placed w.sessions a) w'.seats records (graves ++ more) x.served (Some x.left)
      (truth_on w.sessions (placed w.sessions a) w.seats w'.seats graves (graves ++ more) links_stop records lines keeps.truth) new_record

  -- the client's grave, as each session's is told
  same_graves : client_graves a.over a ≡ client_graves true a
  same_graves = ap (λ (b : Bool). client_graves b a) over

  clients_stop : KeepsClients w.thread w.last (placed w.sessions a) (records ++ lines) (graves ++ more)
  clients_stop = subst (λ (gs : List Grave). KeepsClients w.thread w.last (placed w.sessions a) (records ++ lines) (graves ++ (closed ++ gs))) same_graves
      (clients_go w.thread w.last w.sessions s a (stopped_of d z t) x.served (Some x.left) records graves closed (stop_no_client d z t) keeps.owners.rise its first worker number
      (k.stop.links w.turns).records k.stop.tells.leaves keeps.clients)

  new_grave : (server : ServerNo) (id : ConnId) (l : LinkState) → Contains (graves ++ more) (grave (OfConn server id) l)
      → Contains graves (grave (OfConn server id) l) ⊎ ((y : Touch) × (e : z ≡ Some y) × (server ≡ y.server) × (id ≡ y.id) × ((touched y e).0.goes.gone ≡ Some l))
  new_grave server id l c =
      let g = grave (OfConn server id) l in
      ⊎_elim (λ (old : Contains graves g). inl old)
      (λ (new : Contains (closed ++ client_graves true a) g).
      ⊎_elim
      (λ (h : Contains closed g). let r = stop_new d z t server id l h in inr (r.0, r.1, r.2, r.3, sym (touched r.0 r.1).3 ∙ r.4))
      (λ (h : Contains (client_graves true a) g). absurd (no_conn_grave true a server id l h))
      (Contains-append_cases closed (client_graves true a) g new))
      (Contains-append_cases graves (closed ++ client_graves true a) g c)

  told : RecordsTold s a (stopped_of d z t) (Some x.left) x.served
  told = (k.stop.links w.turns).records

  conns_stop : KeepsConns (placed w.sessions a) w'.seats (records ++ lines) (graves ++ more)
  conns_stop = conns_go w.sessions w.last s a w.seats w'.seats d.added (is_first s) net k.mid z graves (graves ++ more) records x.served (Some x.left) keeps.owners.rise first worker number empty
      (k.stop.links w.turns).adds keeps.alone (its_record s a (stopped_of d z t) (Some x.left) x.served told)
      (λ e. own_stop s a (stopped_of d z t) (Some x.left) x.served (no_conn d z t e) told) (touched_none d z t) (λ y e. (touched y e).0)
      (λ y e. exch_ends s a y (touched y e).0.goes.before x.served (went_is d z t y e)) (λ y e. passed_stop s y (touched y e).0.goes.after x.served (went_ends d z t y e) k.stop.tells.kind)
      (its_over s a (stopped_of d z t) (Some x.left) x.served told) new_grave (held_in w.seats w.sessions seats.owns seats.one) keeps.conns

  -- the client's dial stays
  dial : a.client.dial ≡ s.client.dial
  dial = ap (λ (l : LinkState). l.dial) (stopped_client s k.client x.served ∙ k.stop.stops.link)

  owners_stop : KeepsOwners w.thread w.last (placed w.sessions a) w'.seats (records ++ lines) (graves ++ more)
  owners_stop = subst (λ (gs : List Grave). KeepsOwners w.thread w.last (placed w.sessions a) w'.seats (records ++ lines) (graves ++ (closed ++ gs))) same_graves
      (owners_go w.thread w.last w.sessions s a w.seats w'.seats x.served (Some x.left) records graves closed first worker number dial k.stop.tells.leaves
      (stop_clients d z t) (stop_dials d z t)
      (in_order (HasMarks s.worker s.number (is_first s) z) w.seats w'.seats d.added (k.stop.links w.turns).adds keeps.owners.order) keeps.owners)

  dials_stop : KeepsDials (placed w.sessions a) w'.seats (graves ++ more) net'
  dials_stop = dials_stay w.sessions (placed w.sessions a) w.seats w'.seats graves (graves ++ more) net net' links_stop
      (then_stays net.dials k.mid.dials net'.dials (stop_dialled d z t) k.buries.1.dials) keeps.dials

  pub course_stop : KeepsCourse w' net' (records ++ lines) (graves ++ more)
  course_stop = record {
    alone = alone_after (HasMarks s.worker s.number (is_first s) z) 0 w.seats w'.seats d.added (k.stop.links w.turns).adds keeps.alone;
    buried = buried_more graves more (buried_with (stop_gone_of d z t) true k.client) net net' (stop_links d z t a ∙ ap (buried_with (stop_gone_of d z t) true) (stopped_client s k.client x.served)) keeps.buried k.buried;
    clients = subst (λ (th : ThreadNo). KeepsClients th w'.last w'.sessions (records ++ lines) (graves ++ more)) (sym k.stays.thread)
        (subst (λ (m : ℕ). KeepsClients w.thread m w'.sessions (records ++ lines) (graves ++ more)) (sym k.stays.last)
        (subst (λ (ss : List SessionNow). KeepsClients w.thread w.last ss (records ++ lines) (graves ++ more)) gone clients_stop));
    truth = subst (λ (ss : List SessionNow). KeepsTruth ss w'.seats (records ++ lines) (graves ++ more)) gone truth_stop;
    conns = subst (λ (ss : List SessionNow). KeepsConns ss w'.seats (records ++ lines) (graves ++ more)) gone conns_stop;
    owners = subst (λ (th : ThreadNo). KeepsOwners th w'.last w'.sessions w'.seats (records ++ lines) (graves ++ more)) (sym k.stays.thread)
        (subst (λ (m : ℕ). KeepsOwners w.thread m w'.sessions w'.seats (records ++ lines) (graves ++ more)) (sym k.stays.last)
        (subst (λ (ss : List SessionNow). KeepsOwners w.thread w.last ss w'.seats (records ++ lines) (graves ++ more)) gone owners_stop));
    dials = subst (λ (ss : List SessionNow). KeepsDials ss w'.seats (graves ++ more) net') gone dials_stop;
  }
