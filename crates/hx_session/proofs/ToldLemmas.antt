-- What a worker learns of the records and the end that a step or a stop gives.
use Rattle.std.proofs.Common.{◌≡◌, ◌≤◌, ◌-◌, ℕ, false, List, refl, sym, ap, subst, ◌∙◌, inl, inr, arith, Option, Some, None}
use Rattle.std.specs.Prelude.{IfSome}
use Rattle.hx_conn.specs.Conns.{RestedNow, BusyNow}
use Rattle.hx_conn.specs.WhatTold.{what_of_link}
use Rattle.hx_connecting.specs.Around.{resting}
use Rattle.hx_connecting.specs.Sessions.{SessionNow, Exchanging as OnConn}
use Rattle.hx_connecting.specs.Ways.{HasNoExchange}
use Rattle.hx_link.specs.Told.{LinkState}
use Rattle.hx_pool.specs.SeatView.{History}
use Rattle.hx_message.specs.declared.MethodKind.{MethodKind}
use Rattle.hx_record.specs.Truth.{IsTruePassed}
use Rattle.hx_record.specs.declared.served.Carried.{Carried}
use Rattle.hx_record.specs.declared.served.Kind.{Kind}
use Rattle.hx_record.specs.declared.served.Kind.TheVariants as kind
use Rattle.hx_record.specs.declared.served.Left.{Left as Leave}
use Rattle.hx_record.specs.declared.served.LeftCause.{LeftCause}
use Rattle.hx_record.specs.declared.served.LeftCause.TheVariants as cause
use Rattle.hx_record.specs.declared.served.Served.{Served}
use Rattle.hx_session.specs.declared.step.Waits.{Waits}
use Rattle.hx_session.specs.Desks.{DeskNow}
use Rattle.hx_session.specs.Moves.{with_client}
use Rattle.hx_session.specs.Over.{IsTold, IsToldOf, left_of, served_of, after_record}
use Rattle.hx_session.specs.Records.{EndsSession, IsOfMethod, WhereTold, told_of, Leaves, LeftStands, cut_ends, ends_after, leaves_for}
use Rattle.hx_session.specs.Seen.{conn_seen, over_seen, own_seen, session_seen}
use Rattle.hx_session.specs.Stages.{StageNow, Reading, Choosing, Exchanging, Answering, Left, IsAnswering, own_stage}
use Rattle.hx_session.specs.Standing.{IsDone, IsGone, IsSound}
use Rattle.hx_session.specs.Stopping.{ServesAtStop, StopsKind}
use Rattle.hx_session.specs.Telling.{CarriesSame, TellsOne, IsToldOwn, IsOfStage, LeavesWith, DoneTells, StopsStage, StopTells, KindTold, RecordTold, RecordsTold, WasDecided, conn_told, LeavesWithout, StepTold, StopTold, finished_by, stopped}
use Rattle.hx_session.proofs.RecordLemmas.{by_options, told_stands}
use Rattle.hx_session.proofs.TellLemmas.{link_same, link_then, own_gave, own_of, told_on, of_on, own_on, plain_finish, reading_none, choosing_none, left_none}

-- a session that goes on counts from 1
pub sound_one : (d : DeskNow) (s : StageNow) → IsSound d s → over_seen s ≡ false → 1 ≤ d.number
sound_one d (Reading held) k e = k.2.one
sound_one d (Choosing c) k e = k.2.one
sound_one d (Exchanging x) k e = k.2.one
sound_one d (Answering a) k e = k.2.one
sound_one d Left k e = cc

-- a record of each kind, as the worker sees it
kind_told : (front : ℕ) (d d' : DeskNow) (s : StageNow) (s' : SessionNow) (why : LeftCause) (r : Served) (k : Kind) → s'.client ≡ d'.client → CarriesSame d.client d'.client → IsOfStage s d why r k
    → ((status : ℕ) → k ≡ kind.Own status → s'.own ≡ None) → KindTold (session_seen front d s) s' (conn_told (conn_seen s)) why r k
kind_told front d d' (Reading held) s' why r k is same h own = absurd (reading_none held d why r k h)
kind_told front d d' (Choosing c) s' why r k is same h own = absurd (choosing_none c d why r k h)
kind_told front d d' (Exchanging e) s' why r (kind.Passed c) is same h own = (
  (e.busy, refl, h.0),
  told_stands s'.client e.busy.link why r (subst (λ (l : LinkState). IsTold l e.busy.link why r) (sym is) (told_on d.client d'.client e.busy.link why r same h.1)),
)
kind_told front d d' (Exchanging e) s' why r (kind.Cut c w) is same h own = (
  (e.busy, refl, h.0),
  told_stands s'.client e.busy.link why r (subst (λ (l : LinkState). IsTold l e.busy.link why r) (sym is) (told_on d.client d'.client e.busy.link why r same h.1)),
)
kind_told front d d' (Exchanging e) s' why r (kind.Own status) is same h own = absurd h
kind_told front d d' (Answering a) s' why r (kind.Passed c) is same h own = absurd h
kind_told front d d' (Answering a) s' why r (kind.Cut c w) is same h own = absurd h
kind_told front d d' (Answering a) s' why r (kind.Own status) is same h own = (
  own status refl,
  subst (λ (l : LinkState). IsToldOwn l why r) (sym is) (own_on d.client d'.client why r same h.1),
)
kind_told front d d' Left s' why r k is same h own = absurd (left_none d why r k h)

-- a passed record is of a request of its exchange's method
some_busy : (a b : BusyNow) → Some (OnConn a) ≡ Some (OnConn b) → a.exchange.method ≡ b.exchange.method
some_busy a b e = cc

of_stands : (client link : LinkState) (m : MethodKind) (r : Served) (c : Carried) → IsToldOf client link m r c
    → WhereTold (what_of_link client).told (λ x. WhereTold (told_of (Some (what_of_link link))) (λ y. (p : IsTruePassed r c x y) × (p.method ≡ m)))
of_stands client link m r c t = by_options (λ x y. (p : IsTruePassed r c x y) × (p.method ≡ m)) client.taken client.sent link.taken link.sent client.told_end link.told_end t

method_told : (front : ℕ) (d d' : DeskNow) (s : StageNow) (why : LeftCause) (r : Served) (k : Kind) → CarriesSame d.client d'.client → IsOfStage s d why r k
    → IsOfMethod (session_seen front d s) d'.client (conn_told (conn_seen s)) r k
method_told front d d' s why r (kind.Cut c w) same h = tt
method_told front d d' s why r (kind.Own status) same h = tt
method_told front d d' (Reading held) why r (kind.Passed c) same h = absurd h
method_told front d d' (Choosing x) why r (kind.Passed c) same h = absurd h
method_told front d d' (Answering a) why r (kind.Passed c) same h = absurd h
method_told front d d' Left why r (kind.Passed c) same h = absurd h
method_told front d d' (Exchanging e) why r (kind.Passed c) same h = λ b is.
    of_stands d'.client e.busy.link b.exchange.method r c
    (subst (λ (m : MethodKind). IsToldOf d'.client e.busy.link m r c) (some_busy e.busy b is) (of_on d.client d'.client e.busy.link e.busy.exchange.method r c same h.2))

-- an own answer whose record is given was decided
own_told : (front : ℕ) (d : DeskNow) (s : StageNow) (why : LeftCause) (r : Served) (k : Kind) → IsOfStage s d why r k → WasDecided (session_seen front d s) k
own_told front d s why r (kind.Passed c) h = tt
own_told front d s why r (kind.Cut c w) h = tt
own_told front d (Answering a) why r (kind.Own status) h = ap Some (sym h.0)
own_told front d (Reading held) why r (kind.Own status) h = absurd h
own_told front d (Choosing c) why r (kind.Own status) h = absurd h
own_told front d (Exchanging e) why r (kind.Own status) h = absurd h
own_told front d Left why r (kind.Own status) h = absurd h

-- the record as the worker sees it
record_told : (front : ℕ) (d d' : DeskNow) (s s' : StageNow) (left : Option Leave) (r : Served) → 1 ≤ d.number → TellsOne d d' r → IsOfStage s d (leaves_for left) r r.kind
    → ((status : ℕ) → r.kind ≡ kind.Own status → own_seen s' ≡ None) → HasNoExchange (conn_seen s') → EndsSession (ends_after r.kind) left → RecordTold (session_seen front d s) (session_seen front d' s') (conn_told (conn_seen s)) left r
record_told front d d' s s' left r some one of own over ends = record {
  worker = one.worker;
  session = one.session;
  number = one.number ∙ omega (arith, some);
  ask = one.ask;
  gave = one.gave;
  ask_rises = one.ask_rises;
  gave_rises = one.gave_rises;
  kind = kind_told front d d' s (session_seen front d' s') (leaves_for left) r r.kind refl one.client of own;
  own = own_told front d s (leaves_for left) r r.kind of;
  method = method_told front d d' s (leaves_for left) r r.kind one.client of;
  over = over;
  served = omega (arith, one.next, some);
  asked = one.asked;
  given = one.given;
  ends = ends;
}

-- a record with which the session goes on isn't that of an own answer
goes_on_kind : (k : Kind) (status : ℕ) → ends_after k ≡ None → k ≡ kind.Own status → ⊥
goes_on_kind k status ends is = some_none (sym (ap (λ (x : Kind). ends_after x) is) ∙ ends)
  where
    some_none : Some cause.Own ≡ None → ⊥
    some_none e = cc

ends_by : (o : Option LeftCause) (l : Leave) → LeavesWith o l.cause → EndsSession o (Some l)
ends_by None l x = absurd x
ends_by (Some w) l x = (l, refl, x)

records_told : (front : ℕ) (d d' : DeskNow) (s s' : StageNow) (served : Option Served) (left : Option Leave) → 1 ≤ d.number → DoneTells d s d' s' served left
    → ((l : Leave) → left ≡ Some l → own_seen s' ≡ None) → ((l : Leave) → left ≡ Some l → conn_seen s' ≡ None) → RecordsTold (session_seen front d s) (session_seen front d' s') (conn_told (conn_seen s)) left served
records_told front d d' s s' None None some t own conn = record { served = ap (λ (n : ℕ). n - 1) t.number; asked = t.ask_from; given = t.gave_from }
records_told front d d' s s' None (Some l) some t own conn = record { served = ap (λ (n : ℕ). n - 1) t.0.number; asked = t.0.ask_from; given = t.0.gave_from }
records_told front d d' s s' (Some r) None some t own conn =
    record_told front d d' s s' None r some t.0 t.1 (λ status is. absurd (goes_on_kind r.kind status t.2 is)) t.4 (subst (λ (o : Option LeftCause). EndsSession o None) (sym t.2) refl)
records_told front d d' s s' (Some r) (Some l) some t own conn =
    record_told front d d' s s' (Some l) r some t.0 t.1 (λ status is. own l refl) (subst HasNoExchange (sym (conn l refl)) tt) (ends_by (ends_after r.kind) l t.2)

without_told : (d d' : DeskNow) (s s' : StageNow) (served : Option Served) (left : Option Leave) → DoneTells d s d' s' served left → LeavesWithout served left
without_told d d' s s' None None t = tt
without_told d d' s s' None (Some l) t = t.1
without_told d d' s s' (Some r) None t = tt
without_told d d' s s' (Some r) (Some l) t = tt

finished_told : (d d' : DeskNow) (s s' : StageNow) (served : Option Served) (left : Option Leave) → DoneTells d s d' s' served left → d'.client.finished ≡ finished_by left d.client.finished
finished_told d d' s s' None None t = t.finished
finished_told d d' s s' None (Some l) t = t.0.finished ∙ plain_finish l.cause d.client.finished t.1
finished_told d d' s s' (Some r) None t = t.3
finished_told d d' s s' (Some r) (Some l) t = t.3

-- the session's end
left_stands : (front : ℕ) (d : DeskNow) (seats : List History) (why : LeftCause) → IsGone d seats → LeftStands (session_seen front d Left) (left_of d why)
left_stands front d seats why gone = record {
  worker = refl;
  session = refl;
  from = refl;
  rises = gone.ordered;
  to = gone.tallied.taken;
  gave = gone.told ∙ gone.tallied.given;
  over = refl;
  conn = refl;
}

pub done_leaves : (front : ℕ) (d : DeskNow) (s : StageNow) (seats : List History) (w : Waits) (left : Option Leave) → IsDone d s seats w left → Leaves (session_seen front d s) left
done_leaves front d Left seats w left k = subst (λ (o : Option Leave). Leaves (session_seen front d Left) o) (sym k.2.1) (left_stands front d seats k.2.0 k.0)
done_leaves front d (Reading held) seats w left k = subst (λ (o : Option Leave). Leaves (session_seen front d (Reading held)) o) (sym k.2) refl
done_leaves front d (Choosing c) seats w left k = subst (λ (o : Option Leave). Leaves (session_seen front d (Choosing c)) o) (sym k.2) refl
done_leaves front d (Exchanging e) seats w left k = subst (λ (o : Option Leave). Leaves (session_seen front d (Exchanging e)) o) (sym k.2) refl
done_leaves front d (Answering a) seats w left k = subst (λ (o : Option Leave). Leaves (session_seen front d (Answering a)) o) (sym k.2) refl

some_left : (left : Option Leave) (l : Leave) → left ≡ None → left ≡ Some l → ⊥
some_left left l e f = none_some (sym e ∙ f)
  where
    none_some : None ≡ Some l → ⊥
    none_some x = cc

done_own : (d : DeskNow) (s : StageNow) (seats : List History) (w : Waits) (left : Option Leave) → IsDone d s seats w left → (l : Leave) → left ≡ Some l → own_seen s ≡ None
done_own d Left seats w left k l e = refl
done_own d (Reading held) seats w left k l e = refl
done_own d (Choosing c) seats w left k l e = refl
done_own d (Exchanging x) seats w left k l e = refl
done_own d (Answering a) seats w left k l e = absurd (some_left left l k.2 e)

done_conn : (d : DeskNow) (s : StageNow) (seats : List History) (w : Waits) (left : Option Leave) → IsDone d s seats w left → (l : Leave) → left ≡ Some l → conn_seen s ≡ None
done_conn d Left seats w left k l e = refl
done_conn d (Reading held) seats w left k l e = absurd (some_left left l k.2 e)
done_conn d (Choosing c) seats w left k l e = absurd (some_left left l k.2 e)
done_conn d (Exchanging x) seats w left k l e = absurd (some_left left l k.2 e)
done_conn d (Answering a) seats w left k l e = absurd (some_left left l k.2 e)

pub step_told : (front : ℕ) (d d' : DeskNow) (s s' : StageNow) (seats : List History) (w : Waits) (served : Option Served) (left : Option Leave) → 1 ≤ d.number → DoneTells d s d' s' served left
    → IsDone d' s' seats w left → StepTold (session_seen front d s) (session_seen front d' s') left served
step_told front d d' s s' seats w served left some t done = record {
  records = records_told front d d' s s' served left some t (done_own d' s' seats w left done) (done_conn d' s' seats w left done);
  leaves = done_leaves front d' s' seats w left done;
  without = without_told d d' s s' served left t;
  finished = finished_told d d' s s' served left t;
}

-- what a stop gives
stop_ends : (s : StageNow) (k : Kind) (left : Leave) → left.cause ≡ cause.Stop → StopsStage s k → EndsSession (ends_after k) (Some left)
stop_ends (Exchanging e) (kind.Cut c w) left stop h = (left, refl, inl (stop ∙ sym (ap cut_ends h.0)))
stop_ends (Exchanging e) (kind.Passed c) left stop h = absurd h
stop_ends (Exchanging e) (kind.Own status) left stop h = absurd h
stop_ends (Answering a) (kind.Own status) left stop h = (left, refl, inr (refl, inr (inr stop)))
stop_ends (Answering a) (kind.Passed c) left stop h = absurd h
stop_ends (Answering a) (kind.Cut c w) left stop h = absurd h
stop_ends (Reading held) (kind.Passed c) left stop h = absurd h
stop_ends (Reading held) (kind.Cut c w) left stop h = absurd h
stop_ends (Reading held) (kind.Own status) left stop h = absurd h
stop_ends (Choosing x) (kind.Passed c) left stop h = absurd h
stop_ends (Choosing x) (kind.Cut c w) left stop h = absurd h
stop_ends (Choosing x) (kind.Own status) left stop h = absurd h
stop_ends Left (kind.Passed c) left stop h = absurd h
stop_ends Left (kind.Cut c w) left stop h = absurd h
stop_ends Left (kind.Own status) left stop h = absurd h

pub stop_own : (d d1 : DeskNow) (status : ℕ) (held : Option RestedNow) (r : Served) → IsAnswering d status → r ≡ served_of d (kind.Own status) d.taken → d1 ≡ after_record d d.taken
    → StopTells (own_stage status held) d d1 (Some r)
stop_own d d1 status held r a is next = (
  subst (λ (y : DeskNow). TellsOne d y r) (sym next) (subst (λ (x : Served). TellsOne d (after_record d d.taken) x) (sym is)
      (record { worker = refl; session = refl; number = refl; ask = refl; gave = refl; ask_rises = a.ordered; gave_rises = own_gave d status a; next = refl; asked = refl; given = refl; client = link_same d.client })),
  own_of d status held r cause.Stop a (inr (inr (inr refl))) is,
  subst (λ (x : Served). StopsStage (own_stage status held) x.kind) (sym is) tt,
  ap (λ (x : DeskNow). x.client.finished) next,
)

stop_record : (front : ℕ) (d d1 d' : DeskNow) (s : StageNow) (r : Served) (left : Leave) → 1 ≤ d.number → left.cause ≡ cause.Stop → CarriesSame d1.client d'.client → StopTells s d d1 (Some r)
    → RecordTold (session_seen front d s) (stopped (session_seen front d s) d'.client (Some r)) (conn_told (conn_seen s)) (Some left) r
stop_record front d d1 d' s r left some stop same t = record {
  worker = t.0.worker;
  session = t.0.session;
  number = t.0.number ∙ omega (arith, some);
  ask = t.0.ask;
  gave = t.0.gave;
  ask_rises = t.0.ask_rises;
  gave_rises = t.0.gave_rises;
  kind = kind_told front d d' s (stopped (session_seen front d s) d'.client (Some r)) left.cause r r.kind refl (link_then d.client d1.client d'.client t.0.client same)
      (subst (λ (w : LeftCause). IsOfStage s d w r r.kind) (sym stop) t.1) (λ status is. refl);
  own = own_told front d s cause.Stop r r.kind t.1;
  method = method_told front d d' s cause.Stop r r.kind (link_then d.client d1.client d'.client t.0.client same) t.1;
  over = tt;
  served = refl;
  asked = refl;
  given = refl;
  ends = stop_ends s r.kind left stop t.2;
}

stop_records : (front : ℕ) (d d1 d' : DeskNow) (s : StageNow) (served : Option Served) (left : Leave) → 1 ≤ d.number → left.cause ≡ cause.Stop → CarriesSame d1.client d'.client → StopTells s d d1 served
    → RecordsTold (session_seen front d s) (stopped (session_seen front d s) d'.client served) (conn_told (conn_seen s)) (Some left) served
stop_records front d d1 d' s None left some stop same t = record { served = refl; asked = refl; given = refl }
stop_records front d d1 d' s (Some r) left some stop same t = stop_record front d d1 d' s r left some stop same t

-- the desk behind a stop
pub record StopsAt (d d1 d' : DeskNow) (seats : List History) (left : Leave) : Type 0 where
  pub who : (d'.worker ≡ d.worker) × (d'.session ≡ d.session)
  pub desk : d' ≡ with_client d1 d'.client
  pub client : CarriesSame d1.client d'.client
  pub finished : d'.client.finished ≡ d1.client.finished
  pub gone : IsGone d' seats
  pub end : left ≡ left_of d' cause.Stop

stop_leaves : (front : ℕ) (d d1 d' : DeskNow) (s : StageNow) (seats : List History) (served : Option Served) (left : Leave) → StopsAt d d1 d' seats left → StopTells s d d1 served
    → LeftStands (stopped (session_seen front d s) d'.client served) left
stop_leaves front d d1 d' s seats None left a t =
    let ask = ap (λ (x : DeskNow). x.ask_from) a.desk ∙ t.0.ask_from in
    let gave = ap (λ (x : DeskNow). x.gave_from) a.desk ∙ t.0.gave_from in
    record {
      worker = ap (λ (l : Leave). l.worker) a.end ∙ a.who.0;
      session = ap (λ (l : Leave). l.session) a.end ∙ a.who.1;
      from = ap (λ (l : Leave). l.ask.from) a.end ∙ ask;
      rises = subst (λ (l : Leave). l.ask.from ≤ l.ask.to) (sym a.end) a.gone.ordered;
      to = ap (λ (l : Leave). l.ask.to) a.end ∙ a.gone.tallied.taken;
      gave = sym gave ∙ (a.gone.told ∙ a.gone.tallied.given);
      over = refl;
      conn = refl;
    }
stop_leaves front d d1 d' s seats (Some r) left a t =
    let ask = ap (λ (x : DeskNow). x.ask_from) a.desk ∙ t.0.asked in
    let gave = ap (λ (x : DeskNow). x.gave_from) a.desk ∙ t.0.given in
    record {
      worker = ap (λ (l : Leave). l.worker) a.end ∙ a.who.0;
      session = ap (λ (l : Leave). l.session) a.end ∙ a.who.1;
      from = ap (λ (l : Leave). l.ask.from) a.end ∙ ask;
      rises = subst (λ (l : Leave). l.ask.from ≤ l.ask.to) (sym a.end) a.gone.ordered;
      to = ap (λ (l : Leave). l.ask.to) a.end ∙ a.gone.tallied.taken;
      gave = sym gave ∙ (a.gone.told ∙ a.gone.tallied.given);
      over = refl;
      conn = refl;
    }

idle_serves : (s : SessionNow) (held : Option RestedNow) → ServesAtStop s (resting held) None None
idle_serves s None = refl
idle_serves s (Some r) = refl

stop_serves : (front : ℕ) (d d1 : DeskNow) (s : StageNow) (served : Option Served) → StopTells s d d1 served → ServesAtStop (session_seen front d s) (conn_seen s) (own_seen s) served
stop_serves front d d1 (Reading held) None t = idle_serves (session_seen front d (Reading held)) held
stop_serves front d d1 (Choosing c) None t = idle_serves (session_seen front d (Choosing c)) c.held
stop_serves front d d1 (Exchanging e) None t = absurd t.1
stop_serves front d d1 (Answering a) None t = absurd t.1
stop_serves front d d1 Left None t = absurd t.1
stop_serves front d d1 (Reading held) (Some r) t = absurd (reading_none held d cause.Stop r r.kind t.1)
stop_serves front d d1 (Choosing c) (Some r) t = absurd (choosing_none c d cause.Stop r r.kind t.1)
stop_serves front d d1 (Exchanging e) (Some r) t = refl
stop_serves front d d1 (Answering a) (Some r) t = refl
stop_serves front d d1 Left (Some r) t = absurd (left_none d cause.Stop r r.kind t.1)

stop_kind : (front : ℕ) (d : DeskNow) (s : StageNow) (r : Served) (k : Kind) → IsOfStage s d cause.Stop r k → StopsStage s k → StopsKind (session_seen front d s) k
stop_kind front d (Reading held) r k of h = absurd (reading_none held d cause.Stop r k of)
stop_kind front d (Choosing c) r k of h = absurd (choosing_none c d cause.Stop r k of)
stop_kind front d (Exchanging e) r (kind.Passed c) of h = absurd h
stop_kind front d (Exchanging e) r (kind.Cut c w) of h = (refl, h.0, h.1)
stop_kind front d (Exchanging e) r (kind.Own status) of h = absurd h
stop_kind front d (Answering a) r (kind.Passed c) of h = absurd h
stop_kind front d (Answering a) r (kind.Cut c w) of h = absurd h
stop_kind front d (Answering a) r (kind.Own status) of h = ap (λ (n : ℕ). Some n) (sym of.0)
stop_kind front d Left r k of h = absurd (left_none d cause.Stop r k of)

stop_kinds : (front : ℕ) (d d1 : DeskNow) (s : StageNow) (served : Option Served) → StopTells s d d1 served → IfSome served (λ r. StopsKind (session_seen front d s) r.kind)
stop_kinds front d d1 s None t = tt
stop_kinds front d d1 s (Some r) t = stop_kind front d s r r.kind t.1 t.2

stop_finished : (d d1 : DeskNow) (s : StageNow) (served : Option Served) → StopTells s d d1 served → d1.client.finished ≡ d.client.finished
stop_finished d d1 s None t = t.0.finished
stop_finished d d1 s (Some r) t = t.3

pub stop_told : (front : ℕ) (d d1 d' : DeskNow) (s : StageNow) (seats : List History) (served : Option Served) (left : Leave) → 1 ≤ d.number → StopsAt d d1 d' seats left → StopTells s d d1 served
    → StopTold (session_seen front d s) d'.client left served
stop_told front d d1 d' s seats served left some a t = record {
  records = stop_records front d d1 d' s served left some (ap (λ (l : Leave). l.cause) a.end) a.client t;
  leaves = stop_leaves front d d1 d' s seats served left a t;
  serves = stop_serves front d d1 s served t;
  kind = stop_kinds front d d1 s served t;
  finished = a.finished ∙ stop_finished d d1 s served t;
}
