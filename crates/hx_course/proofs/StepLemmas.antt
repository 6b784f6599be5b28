-- A worker's step keeps what holds of a course.
use Rattle.std.proofs.Common.{◌≡◌, ◌⊎◌, ⊎_elim, inl, inr, ℕ, zero, suc, ◌+◌, Bool, true, false, List, [], ◌∷◌, ◌++◌, refl, sym, ap, ◌∙◌, subst, Option, Some, None, arith}
use Rattle.std.specs.Prelude.{IfSome, Contains, option_map, ⊤}
use Rattle.std.proofs.lemmas.List.Elements.{Contains-append_cases, Contains-append_left, Contains-append_right, Contains-push}
use Rattle.hx_base.specs.Spans.{bytes_in}
use Rattle.hx_base.specs.declared.numbers.ConnId.{ConnId}
use Rattle.hx_base.specs.declared.numbers.PlaceNo.{PlaceNo}
use Rattle.hx_base.specs.declared.numbers.ServerNo.{ServerNo}
use Rattle.hx_base.specs.declared.numbers.SessionNo.{SessionNo}
use Rattle.hx_base.specs.declared.numbers.ThreadNo.{ThreadNo}
use Rattle.hx_base.specs.declared.what.LinkTold.{LinkTold}
use Rattle.hx_base.specs.declared.what.What.{What}
use Rattle.hx_conn.specs.Conns.{BusyNow}
use Rattle.hx_conn.specs.WhatTold.{what_of_link}
use Rattle.hx_link.specs.Nets.{DialTold, NetState, TellsDial}
use Rattle.hx_link.specs.Told.{LinkState}
use Rattle.hx_message.specs.Message.{Persists}
use Rattle.hx_pool.specs.SeatView.{About, History, Makes}
use Rattle.hx_pool.specs.History.{marks_of}
use Rattle.hx_pool.specs.declared.entries.Note.{Note}
use Rattle.hx_record.specs.Truth.{IsTruePassed}
use Rattle.hx_record.specs.declared.served.Carried.{Carried}
use Rattle.hx_record.specs.declared.served.Kind.{Kind}
use Rattle.hx_record.specs.declared.served.Kind.TheVariants as kind
use Rattle.hx_record.specs.declared.served.Left.{Left}
use Rattle.hx_record.specs.declared.served.Served.{Served}
use Rattle.hx_record.specs.declared.served.Told.{Told}
use Rattle.hx_record.specs.declared.served.Told.TheVariants as line
use Rattle.hx_connecting.specs.Exchanges.{EndsWith, ExchangeGoes, PassedEnds}
use Rattle.hx_connecting.specs.Links.{GainsAll, NoLinkGoes, IsBuried, TellsBefore, TellsAfter}
use Rattle.hx_connecting.specs.Sessions.{SessionNow, is_first}
use Rattle.hx_connecting.specs.Touches.{Came, Had, Opened, Took, Went, Stays, Rests, Ends, EndsTakenBack, Touch, Adds, AddsEach, HasMarks, came_marks, went_marks, marks_at}
use Rattle.hx_connecting.specs.Ways.{IsOwn}
use Rattle.hx_session.specs.Doings.{Doing}
use Rattle.hx_session.specs.Records.{IsOfMethod, WhereTold, Leaves}
use Rattle.hx_session.specs.Touching.{Touches, TouchesOne, after_of}
use Rattle.hx_session.specs.declared.step.Step.{Step}
use Rattle.hx_worker.proofs.HeadlineOfStep.{headline_of_step}
use Rattle.hx_worker.specs.Headline.{doing_of, dialled_by}
use Rattle.hx_session.specs.Telling.{RecordsTold}
use Rattle.hx_worker.specs.Steps.{Steps, gone_of, buried_with, placed}
use Rattle.hx_worker.specs.Workers.{WorkerNow, HasSeats, session_of}
use Rattle.hx_course.specs.Calls.{AreAlone, HadFor, TookLast, TouchGoes, EndsExchange, step_touched, step_graves}
use Rattle.hx_course.specs.Clients.{KeepsClients}
use Rattle.hx_course.specs.Conns.{KeepsConns}
use Rattle.hx_course.specs.Courses.{KeepsCourse}
use Rattle.hx_course.specs.Graves.{Grave, OfClient, OfConn, grave, links_of, AreBuried, conn_graves, client_graves, clients_of, TellsOwner}
use Rattle.hx_course.specs.Lines.{served_line, left_line, lines_of}
use Rattle.hx_course.specs.Owners.{AreInOrder, KeepsOwners}
use Rattle.hx_course.proofs.DialLemmas.{dials_on, step_dialled}
use Rattle.hx_course.specs.Places.{ConnIs, KeepsDials, LinksGoOn, BytesGrow}
use Rattle.hx_course.specs.Truths.{IsTrueOpen, IsTrueNow, KeepsTruth}
use Rattle.hx_course.proofs.ClientLemmas.{clients_go, not_conn}
use Rattle.hx_course.proofs.ConnLemmas.{its_over, its_record, held_in, conns_go}
use Rattle.hx_course.proofs.GoingLemmas.{adds_new, from_zero, marks_here, touched_place, links_on, record_now}
use Rattle.hx_course.proofs.Numbers.{some_is, found_number}
use Rattle.hx_course.proofs.OwnerLemmas.{conn_clients, conn_dials, order_after, owners_go}
use Rattle.hx_course.proofs.TableLemmas.{NoParks, none_in, one_in, what_before}
use Rattle.hx_course.proofs.TruthLemmas.{passed_open, truth_on, link_grows}

-- ---- graves and burials

pub links_both : (xs ys : List Grave) → links_of (xs ++ ys) ≡ links_of xs ++ links_of ys
links_both [] ys = refl
links_both (x ∷ xs) ys = ap (λ l. x.link ∷ l) (links_both xs ys)

-- a net that buried these and those of a call
pub buried_more : (graves more : List Grave) (links : List LinkState) (old new : NetState) → links_of more ≡ links → AreBuried graves old → GainsAll links old.buried new.buried → AreBuried (graves ++ more) new
buried_more graves more links old new e b g = ⊎_elim
    (λ (k : new.buried ≡ option_map (λ xs. xs ++ links) old.buried). ⊎_elim
    (λ (was : old.buried ≡ Some (links_of graves)). inl (k ∙ (ap (option_map (λ xs. xs ++ links)) was ∙ ap Some (ap (λ l. links_of graves ++ l) (sym e) ∙ sym (links_both graves more)))))
    (λ (none : old.buried ≡ None). inr (k ∙ ap (option_map (λ xs. xs ++ links)) none)) b)
    (λ (k : new.buried ≡ None). inr k) g

pub conn_links : (server : _) (id : _) (gone : Option LinkState) (over : Bool) (a : SessionNow) → links_of (conn_graves server id gone ++ client_graves over a) ≡ buried_with gone over a.client
conn_links server id None false a = refl
conn_links server id None true a = refl
conn_links server id (Some l) false a = refl
conn_links server id (Some l) true a = refl

no_links : (over : Bool) (a : SessionNow) → links_of (client_graves over a) ≡ buried_with None over a.client
no_links false a = refl
no_links true a = refl

step_links : (d : Doing) (x : Option Touch) (t : Touches d x) (over : Bool) (a : SessionNow) → links_of (step_touched d x t ++ client_graves over a) ≡ buried_with (gone_of d x t) over a.client
step_links d None t over a = no_links over a
step_links d (Some x) t over a = conn_links x.server x.id t.goes.gone over a

step_no_client : (d : Doing) (x : Option Touch) (t : Touches d x) (u : ThreadNo) (n : SessionNo) (l : LinkState) → Contains (step_touched d x t) (grave (OfClient u n) l) → ⊥
step_no_client d None t u n l c = none_in (grave (OfClient u n) l) c
step_no_client d (Some x) t u n l c = not_conn x.server x.id t.goes.gone u n l c

-- ---- the touched connection of a step

had_for : (s a : SessionNow) (x : Touch) (w : Went) (before : Option What) (served : Option Served) → ExchangeGoes s a x w before served → HadFor w x.came
had_for s a x Stays before served e = tt
had_for s a x (Rests place uses) before served e = e.2
had_for s a x Ends before served e = tt
had_for s a x (EndsTakenBack place uses) before served e = e

-- what a course takes of it
abbrev Touched : Doing → List Grave → Option What → Option LinkState → Touch → Type 0
Touched d graves conn gone y =
    (k : TouchGoes d.old d.new d.before.seats d.after.seats d.added d.before.net d.after.net y)
    × ((l : LinkState) → k.goes.gone ≡ Some l → Contains graves (grave (OfConn y.server y.id) l)) × (conn ≡ k.goes.after) × (gone ≡ k.goes.gone)
    × ExchangeGoes d.old d.new y y.went k.goes.before d.served × IfSome d.served (λ r. PassedEnds d.old y k.goes.after r.kind)

-- a connection that was taken told what stood beside its last Park
took_marks : (t : ThreadNo) (n : SessionNo) (first : Bool) (z : Touch) (w : Went) (place : PlaceNo) (uses : ℕ) → HadFor w (Took place uses) → NoParks (came_marks t n first z.id (Took place uses) ++ went_marks t n z.id w)
took_marks t n first z Stays place uses h = (tt, tt)
took_marks t n first z (Rests p u) place uses h = let no_ : Took place uses ≡ Had = h in cc
took_marks t n first z Ends place uses h = (tt, (tt, tt))
took_marks t n first z (EndsTakenBack p u) place uses h = let no_ : Took place uses ≡ Had = h in cc

took_last : (d : Doing) (z : Touch) (t : TouchesOne d z) (n : SessionNo) (th : ThreadNo) (first : Bool) → Adds th n first (Some z) d.before.seats d.after.seats d.added → AreAlone d.before.seats
    → (c : Came) → z.came ≡ c → HadFor z.went c → TellsBefore d.old t.at.history t.at.es z c t.goes.before → TookLast d.before.seats z.server z.id c t.goes.before
took_last d z t n th first adds alone Had e had b = tt
took_last d z t n th first adds alone Opened e had b = tt
took_last d z t n th first adds alone (Took place uses) e had b = λ g at.
    let k = adds_new (HasMarks th n first (Some z)) 0 d.before.seats d.after.seats d.added z.server.0 t.at.history t.at.es adds t.at.seat t.at.entries in
    let makes : Makes g t.at.history t.at.es = subst (λ (h : History). Makes h t.at.history t.at.es) (some_is k.0 g (sym k.1 ∙ at)) k.2 in
    let marks : marks_of t.at.es ≡ came_marks th n first z.id (Took place uses) ++ went_marks th n z.id z.went =
    subst (λ (i : ℕ). marks_of t.at.es ≡ marks_at th n first (Some z) i) (from_zero z.server.0) k.3.marks
    ∙ (marks_here th n first z z.server.0 refl ∙ ap (λ (q : Came). came_marks th n first z.id q ++ went_marks th n z.id z.went) e) in
    b.1.5 ∙ (sym b.1.4 ∙ what_before g t.at.history t.at.es b.1.0 b.1.1 b.1.6 z.id.0 makes (alone z.server.0 g at) (subst NoParks (sym marks) (took_marks th n first z z.went place uses had)) b.1.3 b.1.7)

abbrev StepTook : (d : Doing) (x : Option Touch) → Touches d x → Type 0
StepTook d None t = ⊤
StepTook d (Some x) t = TookLast d.before.seats x.server x.id x.came t.goes.before

step_took : (d : Doing) (x : Option Touch) (t : Touches d x) (n : SessionNo) (th : ThreadNo) (first : Bool) → Adds th n first x d.before.seats d.after.seats d.added → AreAlone d.before.seats → StepTook d x t
step_took d None t n th first adds alone = tt
step_took d (Some z) t n th first adds alone = took_last d z t n th first adds alone z.came refl (had_for d.old d.new z z.went t.goes.before d.served t.exchange) t.goes.was

touched_one : (d : Doing) (z : Touch) (t : TouchesOne d z) → TookLast d.before.seats z.server z.id z.came t.goes.before → Touched d (conn_graves z.server z.id t.goes.gone) t.goes.after t.goes.gone z
touched_one d z t took = (
  record {
    history = t.at.history;
    es = t.at.es;
    seat = t.at.seat;
    entries = t.at.entries;
    goes = t.goes;
    had = had_for d.old d.new z z.went t.goes.before d.served t.exchange;
    took = took;
  },
  λ l e. subst (λ (o : Option LinkState). Contains (conn_graves z.server z.id o) (grave (OfConn z.server z.id) l)) (sym e) (Contains-push [] (grave (OfConn z.server z.id) l)),
  refl,
  refl,
  t.exchange,
  t.passed,
)

touched_some : (d : Doing) (x : Option Touch) (t : Touches d x) → StepTook d x t → (y : Touch) → x ≡ Some y → Touched d (step_touched d x t) (after_of d x t) (gone_of d x t) y
touched_some d None t took y e = cc
touched_some d (Some z) t took y e = subst (λ (q : Touch). Touched d (conn_graves z.server z.id t.goes.gone) t.goes.after t.goes.gone q) (some_is z y e) (touched_one d z t took)

-- the grave of a connection is that of the touched one
pub conn_grave_is : (z : Touch) (o : Option LinkState) (server : ServerNo) (id : ConnId) (l : LinkState) → Contains (conn_graves z.server z.id o) (grave (OfConn server id) l)
    → (server ≡ z.server) × (id ≡ z.id) × (o ≡ Some l)
conn_grave_is z None server id l c = absurd (none_in (grave (OfConn server id) l) c)
conn_grave_is z (Some j) server id l c =
    let e = one_in (grave (OfConn z.server z.id) j) (grave (OfConn server id) l) c in
    let o : OfConn z.server z.id ≡ OfConn server id = ap (λ (g : Grave). g.owner) e in
    (cc, cc, ap (λ (g : Grave). Some g.link) e)

step_new : (d : Doing) (x : Option Touch) (t : Touches d x) (server : ServerNo) (id : ConnId) (l : LinkState) → Contains (step_touched d x t) (grave (OfConn server id) l)
    → (y : Touch) × (x ≡ Some y) × (server ≡ y.server) × (id ≡ y.id) × (gone_of d x t ≡ Some l)
step_new d None t server id l c = absurd (none_in (grave (OfConn server id) l) c)
step_new d (Some z) t server id l c = let r = conn_grave_is z t.goes.gone server id l c in (z, refl, r.0, r.1, r.2)

-- no client's grave is a connection's
pub no_conn_grave : (over : Bool) (a : SessionNow) (server : ServerNo) (id : ConnId) (l : LinkState) → Contains (client_graves over a) (grave (OfConn server id) l) → ⊥
no_conn_grave false a server id l c = none_in (grave (OfConn server id) l) c
no_conn_grave true a server id l c =
    let o : OfClient a.worker a.number ≡ OfConn server id = ap (λ (g : Grave). g.owner) (one_in (grave (OfClient a.worker a.number) a.client) (grave (OfConn server id) l) c) in cc

touched_none : (d : Doing) (x : Option Touch) → Touches d x → x ≡ None → NoLinkGoes d.old d.new d.before.net d.after.net
touched_none d None t e = t.0
touched_none d (Some z) t e = cc

own_all : (d : Doing) (x : Option Touch) → Touches d x → x ≡ None → IfSome d.served (λ r. IsOwn r.kind)
own_all d None t e = t.1
own_all d (Some z) t e = cc

own_none : (d : Doing) (x : Option Touch) → Touches d x → (r : Served) → d.served ≡ Some r → x ≡ None → IsOwn r.kind
own_none d None t r g e = subst (λ (o : Option Served). IfSome o (λ v. IsOwn v.kind)) g t.1
own_none d (Some z) t r g e = cc

-- ---- how the record's exchange ends

-- of a passed record whose connection may be used again
open_both : (r : Served) (c : Carried) (b : BusyNow) (o p : Option LinkTold) → WhereTold o (λ x. WhereTold p (λ y. (q : IsTruePassed r c x y) × (q.method ≡ b.exchange.method)))
    → IfSome p (λ l. EndsWith b c l.sent l.taken) → IfSome o (λ x. IfSome p (λ y. IsTrueOpen r c x y))
open_both r c b None p m e = tt
open_both r c b (Some x) None m e = tt
open_both r c b (Some x) (Some y) m e =
    passed_open r c x y m.0 (subst (λ k. Persists k (bytes_in y.taken c.took)) (sym m.1) e.persists)

passed_ends : (s : SessionNow) (client : LinkState) (after : Option What) (z : Touch) (r : Served) (c : Carried) → PassedEnds s z after (kind.Passed c) → IsOfMethod s client after r (kind.Passed c)
    → EndsExchange z.went client after r (kind.Passed c)
passed_ends s client after z r c (inl closed) m = inl closed
passed_ends s client None z r c (inr (b, is, e)) m = absurd e
passed_ends s client (Some v) z r c (inr (b, is, e)) m = inr (v, refl, open_both r c b (what_of_link client).told v.told (m b is) e)

kind_ends : (s : SessionNow) (client : LinkState) (after : Option What) (z : Touch) (r : Served) (k : Kind) → PassedEnds s z after k → IsOfMethod s client after r k → EndsExchange z.went client after r k
kind_ends s client after z r (kind.Passed c) e m = passed_ends s client after z r c e m
kind_ends s client after z r (kind.Cut c why) e m = e
kind_ends s client after z r (kind.Own status) e m = tt

ends_some : (d : Doing) (x : Option Touch) (t : Touches d x) (r : Served) → d.served ≡ Some r → IsOfMethod d.old d.new.client (after_of d x t) r r.kind → (y : Touch) → x ≡ Some y
    → EndsExchange y.went d.new.client (after_of d x t) r r.kind
ends_some d None t r g m y e = cc
ends_some d (Some z) t r g m y e =
    subst (λ (q : Touch). EndsExchange q.went d.new.client t.goes.after r r.kind) (some_is z y e)
    (kind_ends d.old d.new.client t.goes.after z r r.kind (subst (λ (o : Option Served). IfSome o (λ v. PassedEnds d.old z t.goes.after v.kind)) g t.passed) m)

-- ---- the step

empty_over : (a : SessionNow) (left : Option Left) → Leaves a left → a.over ≡ true → a.conn ≡ None
empty_over a None e o = cc
empty_over a (Some l) e o = e.conn

-- seats of one thread stay so
pub alone_after : (P : ℕ → List Note → Type 0) (i : ℕ) (old new : List History) (added : List (List Note)) → AddsEach P i old new added → AreAlone old → AreAlone new
alone_after P i [] [] [] a alone k h e = cc
alone_after P i [] [] (x ∷ added) a alone k h e = absurd a
alone_after P i [] (y ∷ new) added a alone k h e = absurd a
alone_after P i (x ∷ old) [] added a alone k h e = absurd a
alone_after P i (x ∷ old) (y ∷ new) [] a alone k h e = absurd a
alone_after P i (x ∷ old) (y ∷ new) (es ∷ added) a alone zero h e =
    let is : y ≡ h = cc in
    ap (λ (z : History). z.about.threads) (sym is) ∙ (ap (λ (b : About). b.threads) a.0.about ∙ alone 0 x refl)
alone_after P i (x ∷ old) (y ∷ new) (es ∷ added) a alone (suc k) h e = alone_after P (i + 1) old new added a.2 (λ j g f. alone (suc j) g f) k h e

-- what was told before the call, and what is told with it
pub all_told : (ss : _) (seats : List History) (records : List Told) (graves : List Grave) (served : Option Served) (left : Option Left)
    → ((r : Served) → Contains records (line.Served r) → IsTrueNow ss seats (records ++ lines_of served left) graves r r.kind)
    → ((r : Served) → served ≡ Some r → IsTrueNow ss seats (records ++ lines_of served left) graves r r.kind) → KeepsTruth ss seats (records ++ lines_of served left) graves
all_told ss seats records graves served left old new r c = ⊎_elim
    (λ (k : Contains records (line.Served r)). old r k)
    (λ (k : Contains (lines_of served left) (line.Served r)). ⊎_elim
    (λ (q : Contains (served_line served) (line.Served r)). new r (is_served served q))
    (λ (q : Contains (left_line left) (line.Served r)). absurd (no_left left q))
    (Contains-append_cases (served_line served) (left_line left) (line.Served r) k))
    (Contains-append_cases records (lines_of served left) (line.Served r) c)
  where
    is_served : (o : Option Served) → Contains (served_line o) (line.Served r) → o ≡ Some r
    is_served None q = absurd (none_in (line.Served r) q)
    is_served (Some v) q = let e = one_in (line.Served v) (line.Served r) q in cc

    no_left : (o : Option Left) → Contains (left_line o) (line.Served r) → ⊥
    no_left None q = none_in (line.Served r) q
    no_left (Some l) q = let e : line.Left l ≡ line.Served r = one_in (line.Left l) (line.Served r) q in cc

buried_dial : (y : Touch) (gone : Option LinkState) (after : Option What) (l : LinkState) → IsBuried y gone after → gone ≡ Some l → TellsDial y.server y.id l
buried_dial y None after l b e = cc
buried_dial y (Some j) after l b e = subst (λ (z : LinkState). TellsDial y.server y.id z) (some_is j l e) b.0

-- the buried link of a closed connection tells its dial
pub dial_of : (a : SessionNow) (es : List Note) (y : Touch) (w : Went) (gone : Option LinkState) (after : Option What) (l : LinkState) → TellsAfter a es y w gone after → gone ≡ Some l → TellsDial y.server y.id l
dial_of a es y Stays link after l t e = let other = sym e ∙ t.0 in cc
dial_of a es y (Rests place uses) link after l t e = let other = sym e ∙ t.0 in cc
dial_of a es y Ends link after l t e = buried_dial y link after l t.1 e
dial_of a es y (EndsTakenBack place uses) link after l t e = buried_dial y link after l t.1 e

step_dials : (d : Doing) (x : Option Touch) (t : Touches d x) (g : Grave) → Contains (step_touched d x t) g → TellsOwner g.owner g.link
step_dials d None t g c = absurd (none_in g c)
step_dials d (Some z) t g c = conn_dials z.server z.id t.goes.gone (λ l e. dial_of d.new t.at.es z z.went t.goes.gone t.goes.after l t.goes.is e) g c

step_clients : (d : Doing) (x : Option Touch) (t : Touches d x) → clients_of (step_touched d x t) ≡ []
step_clients d None t = refl
step_clients d (Some z) t = conn_clients z.server z.id t.goes.gone

-- seats in their order stay so
pub in_order : (P : ℕ → List Note → Type 0) (old new : List History) (added : List (List Note)) → AddsEach P 0 old new added → AreInOrder old → AreInOrder new
in_order P old new added a order k h e = order_after P 0 0 old new added a (λ m g f. order m g f ∙ omega arith) k h e ∙ omega arith

module _ (w w' : WorkerNow) (net net' : NetState) (n : SessionNo) (r : Step) (k : Steps w w' net net' n r) (records : List Told) (graves : List Grave) (seats : HasSeats w) (seats' : HasSeats w')
    (keeps : KeepsCourse w net records graves) where
  abbrev s : SessionNow
  s = k.session

  abbrev a : SessionNow
  a = k.after

  abbrev d : Doing
  d = doing_of w w' net net' n r k

  abbrev x : Option Touch
  x = k.step.links.touches.touch

  abbrev t : Touches d x
  t = k.step.links.touches.touched

  abbrev closed : List Grave
  closed = step_touched d x t

  abbrev more : List Grave
  more = step_graves w w' net net' n r k

  abbrev lines : List Told
  lines = lines_of r.served r.left

  there : session_of w.sessions s.number.0 ≡ Some s
  there = ap (session_of w.sessions) (found_number w.sessions n.0 s k.there) ∙ k.there

  worker : a.worker ≡ s.worker
  worker = k.step.same.session.worker

  number : a.number ≡ s.number
  number = k.step.same.session.number

  its : s.worker ≡ w.thread
  its = keeps.owners.its s.number.0 s there

  touched : (y : Touch) → x ≡ Some y → Touched d closed (after_of d x t) (gone_of d x t) y
  touched y e = touched_some d x t (step_took d x t s.number s.worker (is_first s) k.step.links.touches.adds keeps.alone) y e

  old_grave : (g : Grave) → Contains graves g → Contains (graves ++ more) g
  old_grave g c = Contains-append_left graves more g c

  client_grave : a.over ≡ true → Contains (graves ++ more) (grave (OfClient a.worker a.number) a.client)
  client_grave over =
      let g = grave (OfClient a.worker a.number) a.client in
      Contains-append_right graves more g
      (Contains-append_right closed (client_graves a.over a) g (subst (λ (b : Bool). Contains (client_graves b a) g) (sym over) (Contains-push [] g)))

  conn_grave : (g : Grave) → Contains closed g → Contains (graves ++ more) g
  conn_grave g c = Contains-append_right graves more g (Contains-append_left closed (client_graves a.over a) g c)

  some_touch : (y : Touch) → x ≡ Some y
      → (q : TouchGoes s a w.seats w'.seats d.added net k.mid y) × ((l : LinkState) → q.goes.gone ≡ Some l → Contains (graves ++ more) (grave (OfConn y.server y.id) l))
  some_touch y e = let z = touched y e in (z.0, λ l f. conn_grave (grave (OfConn y.server y.id) l) (z.1 l f))

  empty : a.over ≡ true → a.conn ≡ None
  empty = empty_over a r.left k.step.tells.leaves

  client_grows : BytesGrow (what_of_link s.client) (what_of_link a.client)
  client_grows = link_grows (what_of_link s.client) (what_of_link a.client) k.step.same.session.client.link

  -- each link goes on
  pub links_step : LinksGoOn w.sessions (placed w.sessions a) w.seats w'.seats graves (graves ++ more)
  links_step = links_on w.sessions w.last s a w.seats w'.seats d.added (is_first s) net k.mid x graves (graves ++ more) keeps.owners.rise there worker number empty
      k.step.links.touches.adds keeps.alone client_grows old_grave client_grave (touched_none d x t) some_touch

  new_record : (v : Served) → r.served ≡ Some v → IsTrueNow (placed w.sessions a) w'.seats (records ++ lines) (graves ++ more) v v.kind
  unfolding some_touch touched
  new_record v e =
      let told : RecordsTold s a (after_of d x t) r.left (Some v) = subst (λ (o : Option Served). RecordsTold s a (after_of d x t) r.left o) e k.step.links.records in
      subst (λ (o : Option Served). IsTrueNow (placed w.sessions a) w'.seats (records ++ lines_of o r.left) (graves ++ more) v v.kind) (sym e)
      (record_now w.sessions w.last s a w.seats w'.seats d.added (is_first s) net k.mid x graves (graves ++ more) keeps.owners.rise there worker number empty
      k.step.links.touches.adds keeps.alone client_grows old_grave client_grave (touched_none d x t) some_touch
      records (after_of d x t) r.left v told k.step.tells.leaves (own_none d x t v e) (λ y f. (touched y f).2)
      (ends_some d x t v e told.method))

  truth_step : KeepsTruth (placed w.sessions a) w'.seats (records ++ lines) (graves ++ more)
  truth_step = all_told (placed w.sessions a) w'.seats records (graves ++ more) r.served r.left
      (truth_on w.sessions (placed w.sessions a) w.seats w'.seats graves (graves ++ more) links_step records lines keeps.truth) new_record

  clients_step : KeepsClients w.thread w.last (placed w.sessions a) (records ++ lines) (graves ++ more)
  clients_step = clients_go w.thread w.last w.sessions s a (after_of d x t) r.served r.left records graves closed (step_no_client d x t) keeps.owners.rise its there worker number
      k.step.links.records k.step.tells.leaves keeps.clients

  new_grave : (server : ServerNo) (id : ConnId) (l : LinkState) → Contains (graves ++ more) (grave (OfConn server id) l)
      → Contains graves (grave (OfConn server id) l) ⊎ ((y : Touch) × (e : x ≡ Some y) × (server ≡ y.server) × (id ≡ y.id) × ((touched y e).0.goes.gone ≡ Some l))
  new_grave server id l c =
      let g = grave (OfConn server id) l in
      ⊎_elim (λ (old : Contains graves g). inl old)
      (λ (new : Contains (closed ++ client_graves a.over a) g).
      ⊎_elim
      (λ (h : Contains closed g). let r = step_new d x t server id l h in inr (r.0, r.1, r.2, r.3, sym (touched r.0 r.1).3 ∙ r.4))
      (λ (h : Contains (client_graves a.over a) g). absurd (no_conn_grave a.over a server id l h))
      (Contains-append_cases closed (client_graves a.over a) g new))
      (Contains-append_cases graves (closed ++ client_graves a.over a) g c)

  conns_step : KeepsConns (placed w.sessions a) w'.seats (records ++ lines) (graves ++ more)
  conns_step = conns_go w.sessions w.last s a w.seats w'.seats d.added (is_first s) net k.mid x graves (graves ++ more) records r.served r.left keeps.owners.rise there worker number empty
      k.step.links.touches.adds keeps.alone (its_record s a (after_of d x t) r.left r.served k.step.links.records) (own_all d x t) (touched_none d x t) (λ y e. (touched y e).0)
      (λ y e. (touched y e).4) (λ y e. (touched y e).5) (its_over s a (after_of d x t) r.left r.served k.step.links.records) new_grave (held_in w.seats w.sessions seats.owns seats.one) keeps.conns

  new_dial : (e : DialTold) → Contains (dialled_by d x t) e → e.answered ≡ true → (v : What) × ConnIs (placed w.sessions a) w'.seats (graves ++ more) e.server e.id v
  unfolding some_touch touched
  new_dial e c answered =
      let r = step_dialled d x t e c answered in
      let v = r.4.0 in
      let place : ConnIs (placed w.sessions a) w'.seats (graves ++ more) r.0.server r.0.id v =
      touched_place w.sessions w.last s a w.seats w'.seats d.added (is_first s) net k.mid x graves (graves ++ more) keeps.owners.rise there worker number empty
      k.step.links.touches.adds keeps.alone client_grows old_grave client_grave (touched_none d x t) some_touch r.0 r.1 v (sym (touched r.0 r.1).2 ∙ r.4.1) in (
        v,
        subst (λ (n : ServerNo). ConnIs (placed w.sessions a) w'.seats (graves ++ more) n e.id v) (sym r.2)
            (subst (λ (i : ConnId). ConnIs (placed w.sessions a) w'.seats (graves ++ more) r.0.server i v) (sym r.3) place),
      )

  dials_step : KeepsDials (placed w.sessions a) w'.seats (graves ++ more) net'
  dials_step = dials_on w.sessions (placed w.sessions a) w.seats w'.seats graves (graves ++ more) net net' (dialled_by d x t) links_step (headline_of_step w w' net net' n r k seats').dialled new_dial keeps.dials

  pub course_step : KeepsCourse w' net' (records ++ lines) (graves ++ more)
  course_step = record {
    alone = alone_after (HasMarks s.worker s.number (is_first s) x) 0 w.seats w'.seats d.added k.step.links.touches.adds keeps.alone;
    buried = buried_more graves more (buried_with (gone_of d x t) a.over a.client) net net' (step_links d x t a.over a) keeps.buried k.buried;
    clients = subst (λ (th : ThreadNo). KeepsClients th w'.last w'.sessions (records ++ lines) (graves ++ more)) (sym k.stays.thread)
        (subst (λ (m : ℕ). KeepsClients w.thread m w'.sessions (records ++ lines) (graves ++ more)) (sym k.stays.last)
        (subst (λ (ss : List SessionNow). KeepsClients w.thread w.last ss (records ++ lines) (graves ++ more)) (sym k.sessions) clients_step));
    truth = subst (λ (ss : List SessionNow). KeepsTruth ss w'.seats (records ++ lines) (graves ++ more)) (sym k.sessions) truth_step;
    conns = subst (λ (ss : List SessionNow). KeepsConns ss w'.seats (records ++ lines) (graves ++ more)) (sym k.sessions) conns_step;
    owners = subst (λ (th : ThreadNo). KeepsOwners th w'.last w'.sessions w'.seats (records ++ lines) (graves ++ more)) (sym k.stays.thread)
        (subst (λ (m : ℕ). KeepsOwners w.thread m w'.sessions w'.seats (records ++ lines) (graves ++ more)) (sym k.stays.last)
        (subst (λ (ss : List SessionNow). KeepsOwners w.thread w.last ss w'.seats (records ++ lines) (graves ++ more)) (sym k.sessions)
        (owners_go w.thread w.last w.sessions s a w.seats w'.seats r.served r.left records graves closed there worker number k.step.same.session.client.dial k.step.tells.leaves
        (step_clients d x t) (step_dials d x t)
        (in_order (HasMarks s.worker s.number (is_first s) x) w.seats w'.seats d.added k.step.links.touches.adds keeps.owners.order) keeps.owners)));
    dials = subst (λ (ss : List SessionNow). KeepsDials ss w'.seats (graves ++ more) net') (sym k.sessions) dials_step;
  }
