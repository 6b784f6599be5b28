-- What a step and a stop do with links, as the worker sees it.
use Rattle.std.proofs.Common.{◌≡◌, ◌≤◌, ℕ, ◌==◌, Bool, true, false, List, [], ◌∷◌, refl, sym, ap, subst, ◌∙◌, zero, suc, ⊎_elim, Option, Some, None}
use Rattle.std.specs.Prelude.{IfSome, slice_get, slice_set, if◌then◌else◌}
use Rattle.hx_base.specs.declared.numbers.SessionNo.{SessionNo}
use Rattle.hx_base.specs.declared.numbers.ThreadNo.{ThreadNo}
use Rattle.hx_base.specs.declared.what.What.{What}
use Rattle.hx_base.specs.declared.what.LinkTold.{LinkTold}
use Rattle.hx_conn.specs.Conns.{RestedNow, BusyNow, IsBusy}
use Rattle.hx_conn.specs.WhatTold.{what_of_link}
use Rattle.hx_link.specs.Nets.{NetState, OnlyFaults, TellsDial}
use Rattle.hx_link.specs.Told.{LinkState}
use Rattle.hx_pool.specs.declared.entries.Entry.{Entry}
use Rattle.hx_pool.specs.declared.entries.Note.{Note}
use Rattle.hx_pool.specs.SeatView.{History}
use Rattle.hx_record.specs.Truth.{RecountsBytes, IsTruePassed}
use Rattle.hx_record.specs.declared.served.Kind.{Kind}
use Rattle.hx_record.specs.declared.served.Kind.TheVariants as kind
use Rattle.hx_record.specs.declared.served.Left.{Left as Leave}
use Rattle.hx_record.specs.declared.served.LeftCause.{LeftCause}
use Rattle.hx_record.specs.declared.served.Served.{Served}
use Rattle.hx_connecting.specs.Adding.{AddsFor}
use Rattle.hx_connecting.specs.Around.{HasAround, resting}
use Rattle.hx_connecting.specs.Closing.{ClosesAt, HasHeld}
use Rattle.hx_connecting.specs.Holds.{HoldsAt}
use Rattle.hx_connecting.specs.Exchanges.{CameGoes, PassedEnds}
use Rattle.hx_connecting.specs.Links.{IsSameLink, TellsBefore}
use Rattle.hx_pool.specs.Opening.{Closes}
use Rattle.hx_connecting.specs.Sessions.{SessionNow, Around, Holding, Resting, Exchanging as OnConn, around_with, conn_link, conn_server, conn_id, is_first}
use Rattle.hx_connecting.specs.Touches.{Touch, Came, Had, Opened, Took, Ends, marks_at, touch_marks}
use Rattle.hx_connecting.specs.Ways.{NetStays, FitsRecord, StaysWith, WayAt, WayFor, SomeWay, stays_of, told_by}
use Rattle.hx_connecting.proofs.AddedCalls.{had}
use Rattle.hx_connecting.proofs.AddingLemmas.{nothing, adds_are, adds_ext, adds_no_touch, adds_touch, adds_wanted, holds_stand, seat_adds}
use Rattle.hx_connecting.proofs.AroundLemmas.{holds_here, seat_set}
use Rattle.hx_connecting.proofs.NetLemmas.{NetEnds, net_faults, net_buries, ends_after, ends_before}
use Rattle.hx_connecting.proofs.TouchLemmas.{closes_seat}
use Rattle.hx_connecting.proofs.TouchedCalls.{detached_told, told_if}
use Rattle.hx_connecting.proofs.WayCalls.{adds_there}
use Rattle.hx_connecting.proofs.WayLemmas.{detaches_same, same_self}
use Rattle.hx_session.specs.declared.step.Step.{Step}
use Rattle.hx_session.specs.Desks.{DeskNow}
use Rattle.hx_session.specs.Doings.{Doing}
use Rattle.hx_session.specs.Ending.{HasOwn}
use Rattle.hx_session.specs.Linking.{StepLinks, StopLinks}
use Rattle.hx_session.specs.Parting.{LetsGo, StopCloses, first_of}
use Rattle.hx_session.specs.Records.{IsOfMethod, WhereTold, leaves_for, told_of}
use Rattle.hx_session.specs.Seen.{conn_seen, session_seen}
use Rattle.hx_session.specs.Stages.{StageNow, Reading, Choosing, Exchanging, Answering, Left}
use Rattle.hx_session.specs.Steps.{doing}
use Rattle.hx_session.specs.Stopping.{StopTouches, stopping, stopped_of}
use Rattle.hx_session.specs.Telling.{KindTold, RecordsTold, conn_told, stopped}
use Rattle.hx_session.specs.Touching.{ClosesForCauses, Touches, after_of, closing_call}
use Rattle.hx_session.proofs.ClosingLemmas.{added_marks, closed_or_free}
use Rattle.hx_connecting.specs.Closings.{ClosesFor}
use Rattle.hx_connecting.specs.Outcomes.{Outcome, ComesOut, CloseNone}
use Rattle.hx_connecting.proofs.CauseLemmas.{causes_none}
use Rattle.hx_session.specs.Parting.{outcome_of}

-- the entries of a call at the seat that it changed
entries_at : (hs : List History) (j : ℕ) (h : History) (es : List Note) → slice_get hs j ≡ Some h → slice_get (slice_set (nothing hs) j es) j ≡ Some es
entries_at [] j h es e = cc
entries_at (x ∷ hs) zero h es e = refl
entries_at (x ∷ hs) (suc j) h es e = entries_at hs j h es e

-- the bytes that a link tells, in the words of the records and in those of its way
told_same : (o : Option What) → told_of o ≡ told_by o
told_same None = refl
told_same (Some w) = refl

-- a record is true of what the link tells after the call, where that is what it told before
kind_at : (s s' : SessionNow) (a b : Option What) (why : LeftCause) (r : Served) (k : Kind) → ((c : Holding) → s.conn ≡ Some c → told_of b ≡ told_of a) → KindTold s s' a why r k → KindTold s s' b why r k
kind_at s s' a b why r (kind.Passed c) same t = (
  t.0,
  subst (λ (o : Option LinkTold). WhereTold (what_of_link s'.client).told (λ x. WhereTold o (λ y. RecountsBytes r.kind r x y why))) (sym (same (OnConn t.0.0) t.0.1)) t.1,
)
kind_at s s' a b why r (kind.Cut c w) same t = (
  t.0,
  subst (λ (o : Option LinkTold). WhereTold (what_of_link s'.client).told (λ x. WhereTold o (λ y. RecountsBytes r.kind r x y why))) (sym (same (OnConn t.0.0) t.0.1)) t.1,
)
kind_at s s' a b why r (kind.Own status) same t = t

-- and it is of its request's method
method_at : (s : SessionNow) (client : LinkState) (a b : Option What) (r : Served) (k : Kind) → ((c : Holding) → s.conn ≡ Some c → told_of b ≡ told_of a) → IsOfMethod s client a r k → IsOfMethod s client b r k
method_at s client a b r (kind.Passed c) same t = λ x is.
    subst (λ (o : Option LinkTold). WhereTold (what_of_link client).told (λ v. WhereTold o (λ y. (p : IsTruePassed r c v y) × (p.method ≡ x.exchange.method)))) (sym (same (OnConn x) is)) (t x is)
method_at s client a b r (kind.Cut c w) same t = tt
method_at s client a b r (kind.Own status) same t = tt

records_at : (s s' : SessionNow) (a b : Option What) (left : Option Leave) (served : Option Served) → ((c : Holding) → s.conn ≡ Some c → IfSome served (λ r. told_of b ≡ told_of a)) → RecordsTold s s' a left served
    → RecordsTold s s' b left served
records_at s s' a b left None same t = t
records_at s s' a b left (Some r) same t = record {
  worker = t.worker;
  session = t.session;
  number = t.number;
  ask = t.ask;
  gave = t.gave;
  ask_rises = t.ask_rises;
  gave_rises = t.gave_rises;
  kind = kind_at s s' a b (leaves_for left) r r.kind same t.kind;
  own = t.own;
  method = method_at s s'.client a b r r.kind same t.method;
  over = t.over;
  served = t.served;
  asked = t.asked;
  given = t.given;
  ends = t.ends;
}

-- what a call did with the touched connection, and the bytes that its link tells where a record is given
record TouchedBy (D : Doing) : Type 0 where
  pub touch : Option Touch
  pub adds : AddsFor D.old.worker D.old.number (is_first D.old) touch D.before.seats D.after.seats D.added
  pub touched : Touches D touch
  pub closes : ClosesForCauses D touch touched
  pub faults : D.before.net.faults ≤ D.after.net.faults
  pub told : (c : Holding) → D.old.conn ≡ Some c → IfSome D.served (λ r. told_of (after_of D touch touched) ≡ told_of (conn_told D.old.conn))

both_same : (b : Bool) (xs : List Entry) → xs ≡ (if b then xs else xs)
both_same true xs = refl
both_same false xs = refl

none_marks : (t : ThreadNo) (n : SessionNo) (first : Bool) (c : Holding) (i : ℕ) → marks_at t n first None i ≡ marks_at t n first (Some (stays_of c)) i
none_marks t n first c i = both_same ((conn_server c).0 == i) []

-- the seat of a connection
abbrev IsAtSeat : List History → Option Holding → Type 0
IsAtSeat seats c = IfSome c (λ k. (h : History) × (slice_get seats (conn_server k).0 ≡ Some h))

passed_at : (D : Doing) (c k : Holding) → D.old.conn ≡ Some c → (served : Option Served) → IfSome served (λ r. (s : SessionNow) → s.conn ≡ Some c → FitsRecord s (stays_of c) (Some (what_of_link (conn_link c))) (Some (what_of_link (conn_link k))) r)
    → IfSome served (λ r. FitsRecord D.old (stays_of c) (Some (what_of_link (conn_link c))) (Some (what_of_link (conn_link k))) r)
passed_at D c k was None f = tt
passed_at D c k was (Some r) f = f D.old was

ends_of : (s : SessionNow) (x : Touch) (before after : Option What) (served : Option Served) → IfSome served (λ r. FitsRecord s x before after r) → IfSome served (λ r. PassedEnds s x after r.kind)
ends_of s x before after None f = tt
ends_of s x before after (Some r) f = f.ends

told_of_fits : (s : SessionNow) (x : Touch) (before after w : Option What) (served : Option Served) → told_by before ≡ told_of w → IfSome served (λ r. FitsRecord s x before after r) → IfSome served (λ r. told_of after ≡ told_of w)
told_of_fits s x before after w None e f = tt
told_of_fits s x before after w (Some r) e f = told_same after ∙ (f.told ∙ e)

none_some : (c : Holding) → None ≡ Some c → ⊥
none_some c e = cc

-- where no connection was touched
by_none : (D : Doing) (c : Option Holding) → D.old.conn ≡ c → AddsFor D.old.worker D.old.number (is_first D.old) None D.before.seats D.after.seats D.added → IsAtSeat D.before.seats c → StaysWith c D.new.conn D.served
    → NetStays D.before.net D.after.net → TouchedBy D
by_none D None was adds there stays net = record {
  touch = None;
  adds = adds;
  touched = (record { conn = stays.0 ∙ sym was; course = net.course; dials = net.dials; buries = net.buries }, stays.1);
  closes = tt;
  faults = net.faults;
  told = λ k is. absurd (none_some k (sym was ∙ is));
}
by_none D (Some c) was adds there stays net =
    let t = D.old.worker in let n = D.old.number in let first = is_first D.old in
    let x : Touch = stays_of c in
    let k = stays.0 in
    let e = stays.2 in
    let at = adds_there n first _ 0 D.before.seats D.after.seats D.added (conn_server c).0 there.0 adds there.1 in
    let fits = passed_at D c k was D.served e.fits in
    record {
      touch = Some x;
      adds = adds_ext n first (λ i. marks_at t n first None i) (λ i. marks_at t n first (Some x) i) 0 D.before.seats D.after.seats D.added (λ i le. none_marks t n first c i) adds;
      touched = record {
        at = record { history = at.0; es = at.1; seat = at.2; entries = at.3 };
        goes = record {
          before = Some (what_of_link (conn_link c));
          after = Some (what_of_link (conn_link k));
          gone = None;
          was = (c, (was, refl, refl), refl);
          is = (refl, (k, (stays.1, e.server, e.id), refl));
          same = e.link;
          dials = (net.dials, net.course);
          buries = net.buries;
        };
        exchange = (k, stays.1, subst (λ (o : Option Holding). CameGoes Had o (Some (what_of_link (conn_link c))) k D.served) (sym was) e.goes);
        passed = ends_of D.old x (Some (what_of_link (conn_link c))) (Some (what_of_link (conn_link k))) D.served fits;
      };
      closes = causes_none (λ m id front. ClosesFor (closing_call D at.0 front x (Some (what_of_link (conn_link c))) (Some (what_of_link (conn_link k))))) [] at.1
          (subst CloseNone (sym (added_marks n first _ 0 D.before.seats D.after.seats D.added (conn_server c).0 at.1 adds at.3)) tt);
      faults = net.faults;
      told = λ q is. told_of_fits D.old x (Some (what_of_link (conn_link c))) (Some (what_of_link (conn_link k))) (conn_told D.old.conn) D.served (sym (ap (λ (o : Option Holding). told_of (conn_told o)) was)) fits;
    }

some_is : (c k : Holding) → Some c ≡ Some k → c ≡ k
some_is c k e = cc

-- what its link told before
before_told : (s : SessionNow) (h : History) (es : List Note) (x : Touch) (came : Came) (w : Option What) (c : Holding) → s.conn ≡ Some c → TellsBefore s h es x came w → told_by w ≡ told_of (conn_told s.conn)
before_told s h es x Had w c was t = ap told_by t.2 ∙ sym (ap (λ (o : Option Holding). told_of (conn_told o)) t.1.0)
before_told s h es x Opened w c was t = absurd (none_some c (sym t.0 ∙ was))
before_told s h es x (Took place uses) w c was t = absurd (none_some c (sym t.0 ∙ was))

by_some : (D : Doing) (x : Touch) (z : Outcome) → ComesOut z D.new D.left → D.new.worker ≡ D.old.worker → D.new.number ≡ D.old.number → AddsFor D.old.worker D.old.number (is_first D.old) (Some x) D.before.seats D.after.seats D.added
    → WayAt D.old.worker D.old.number D.old.conn D.new.conn z D.after.seats D.added D.before.net D.after.net x D.served → TouchedBy D
by_some D x o comes worker number adds way =
    let z = way.way D.old D.new refl refl worker number in
    record {
      touch = Some x;
      adds = adds;
      touched = record {
        at = record { history = way.history; es = way.es; seat = way.seat; entries = way.entries };
        goes = z.0;
        exchange = z.1;
        passed = ends_of D.old x z.0.before z.0.after D.served z.2;
      };
      closes = ⊎_elim
          (λ closed. z.3 closed D.left refl comes)
          (λ free. causes_none (λ m id front. ClosesFor (closing_call D way.history front x z.0.before z.0.after)) [] way.es
          (subst CloseNone (sym (added_marks D.old.number (is_first D.old) _ 0 D.before.seats D.after.seats D.added x.server.0 way.es adds way.entries)) (free _)))
          (closed_or_free D.old.worker D.old.number (is_first D.old) x);
      faults = way.faults;
      told = λ c is. told_of_fits D.old x z.0.before z.0.after (conn_told D.old.conn) D.served (before_told D.old way.history way.es x x.came z.0.before c is z.0.was) z.2;
    }

touched_by : (D : Doing) (x : Option Touch) (z : Outcome) → ComesOut z D.new D.left → D.new.worker ≡ D.old.worker → D.new.number ≡ D.old.number → AddsFor D.old.worker D.old.number (is_first D.old) x D.before.seats D.after.seats D.added → IsAtSeat D.before.seats D.old.conn
    → WayFor D.old.worker D.old.number D.old.conn D.new.conn z D.after.seats D.added D.before.net D.after.net x D.served → TouchedBy D
touched_by D None z comes worker number adds there way = by_none D D.old.conn refl adds there way.0 way.1
touched_by D (Some x) z comes worker number adds there way = by_some D x z comes worker number adds way

held_at : (seats : List History) (n : SessionNo) (held : Option RestedNow) → HasHeld seats n held → IsAtSeat seats (resting held)
held_at seats n None k = tt
held_at seats n (Some r) k = (k.0, k.1)

own_at : (seats : List History) (n : SessionNo) (s : StageNow) → HasOwn seats n s → IsAtSeat seats (conn_seen s)
own_at seats n (Reading held) k = held_at seats n held k
own_at seats n (Choosing c) k = held_at seats n c.held k
own_at seats n (Exchanging e) k = (k.0, k.1)
own_at seats n (Answering a) k = held_at seats n a.held k
own_at seats n Left k = tt

links_of : (s s' : SessionNow) (before after : Around) (added : List (List Note)) (r : Step) → after.net.loop_no ≡ before.net.loop_no → HoldsAt s' 0 after.seats → TouchedBy (doing s s' before after added r)
    → RecordsTold s s' (conn_told s.conn) r.left r.served → StepLinks s s' before after r
links_of s s' before after added r loop holds t records = record {
  added = added;
  touches = record {
    touch = t.touch;
    adds = adds_are s.worker s.number (is_first s) t.touch 0 before.seats after.seats added t.adds;
    wanted = adds_wanted s.number (is_first s) _ 0 before.seats after.seats added t.adds;
    touched = t.touched;
    net = record { loop = loop; faults = t.faults };
    holds = holds;
  };
  closes = t.closes;
  records = records_at s s' (conn_told s.conn) (after_of (doing s s' before after added r) t.touch t.touched) r.left r.served t.told records;
}

-- a step
pub step_links : (front : ℕ) (d d' : DeskNow) (s s' : StageNow) (before after : Around) (r : Step) → d'.worker ≡ d.worker → d'.session ≡ d.session → after.net.loop_no ≡ before.net.loop_no → HasOwn before.seats d.session s
    → HoldsAt (session_seen front d' s') 0 after.seats → ComesOut (outcome_of s') (session_seen front d' s') r.left → SomeWay d.worker d.session (first_of d) (conn_seen s) (conn_seen s') (outcome_of s') before.seats after.seats before.net after.net r.served
    → RecordsTold (session_seen front d s) (session_seen front d' s') (conn_told (conn_seen s)) r.left r.served → StepLinks (session_seen front d s) (session_seen front d' s') before after r
step_links front d d' s s' before after r worker session loop own holds comes w records =
    let o : SessionNow = session_seen front d s in
    let n : SessionNow = session_seen front d' s' in
    links_of o n before after w.at.added r loop holds
    (touched_by (doing o n before after w.at.added r) w.touch (outcome_of s') comes worker session w.at.adds (own_at before.seats d.session s own) w.way) records

-- a stop
record StoppedBy (s s' : SessionNow) (before after : Around) (served : Option Served) (left : Leave) : Type 0 where
  pub touch : Option Touch
  pub added : List (List Note)
  pub adds : AddsFor s.worker s.number (is_first s) touch before.seats after.seats added
  pub touched : StopTouches (stopping s s' before after added served left) touch
  pub faults : before.net.faults ≤ after.net.faults
  pub told : (c : Holding) → s.conn ≡ Some c → IfSome served (λ r. told_of (stopped_of (stopping s s' before after added served left) touch touched) ≡ told_of (conn_told s.conn))

-- it closed the connection, whose link was buried as it stood
stops_conn : (s s' : SessionNow) (before after : Around) (served : Option Served) (left : Leave) (c : Holding) (l : LinkState) (old new : History) → s.conn ≡ Some c → s'.conn ≡ None
    → HasAround s.worker s.number (Some c) before.seats → slice_get before.seats (conn_server c).0 ≡ Some old → after.seats ≡ slice_set before.seats (conn_server c).0 new → Closes old new s.number (conn_id c)
    → l ≡ record (conn_link c) { on_loop = None } → IsSameLink (what_of_link (conn_link c)) (what_of_link l) → TellsDial (conn_server c) (conn_id c) l → NetEnds before.net after.net l
    → StoppedBy s s' before after served left
stops_conn s s' before after served left c l old new was is a there seats closes stood same dial net =
    let t = s.worker in let n = s.number in let first = is_first s in
    let j = (conn_server c).0 in
    let x : Touch = had (conn_server c) (conn_id c) Ends in
    let k = closes_seat old new n (conn_id c) closes in
    let es : List (List Note) = slice_set (nothing before.seats) j k.added in
    let thread = (holds_here t n (Some c) 0 j before.seats old there a.holds).0 in
    let told : told_of (Some (what_of_link l)) ≡ told_of (conn_told s.conn) = detached_told (conn_link c) l stood ∙ sym (ap (λ (o : Option Holding). told_of (conn_told o)) was) in
    record {
      touch = Some x;
      added = es;
      adds = subst (λ (hs : List History). AddsFor t n first (Some x) before.seats hs es) (sym seats)
          (adds_touch t n first x before.seats old new k.added (holds_stand t n (Some c) 0 before.seats a.holds) there thread (seat_adds old new n first (touch_marks old.about.thread n first x) (tt, tt) k));
      touched = record {
        at = record {
          history = new;
          es = k.added;
          seat = subst (λ (hs : List History). slice_get hs j ≡ Some new) (sym seats) (seat_set j before.seats old new there);
          entries = entries_at before.seats j old k.added there;
        };
        came = refl;
        went = refl;
        goes = record {
          before = Some (what_of_link (conn_link c));
          after = Some (what_of_link l);
          gone = Some l;
          was = (c, (was, refl, refl), refl);
          is = (is, (dial, refl));
          same = same;
          dials = (net.dials, net.course);
          buries = net.buries;
        };
        conn = c;
        was = was;
        link = l;
        gone = refl;
        as_it_stood = subst (λ (y : LinkState). y ≡ record (conn_link c) { on_loop = None; faults = y.faults }) (sym stood) refl;
      };
      faults = net.faults;
      told = λ q e. told_if served told;
    }

stops_none : (s s' : SessionNow) (before after : Around) (served : Option Served) (left : Leave) → s.conn ≡ None → s'.conn ≡ None → HasAround s.worker s.number None before.seats → after.seats ≡ before.seats
    → OnlyFaults before.net after.net → StoppedBy s s' before after served left
stops_none s s' before after served left was is a same faults =
    let net = net_faults before.net after.net faults in
    let added : List (List Note) = nothing before.seats in
    record {
      touch = None;
      added = added;
      adds = subst (λ (hs : List History). AddsFor s.worker s.number (is_first s) None before.seats hs added) (sym same) (adds_no_touch s.worker s.number (is_first s) before.seats (holds_stand s.worker s.number None 0 before.seats a.holds));
      touched = (was, record { conn = is ∙ sym was; course = net.course; dials = net.dials; buries = net.buries });
      faults = net.faults;
      told = λ c e. absurd (none_some c (sym was ∙ e));
    }

rested_stood : (r : RestedNow) → r.link.on_loop ≡ None → r.link ≡ record r.link { on_loop = None }
rested_stood r e = subst (λ (o : Option ℕ). r.link ≡ record r.link { on_loop = o }) e refl

-- the session is idle, and what rests with it is closed
stops_idle : (s s' : SessionNow) (before after : Around) (served : Option Served) (left : Leave) (held : Option RestedNow) (client client' : LinkState) → s.conn ≡ resting held → s'.conn ≡ None
    → HasAround s.worker s.number (resting held) before.seats → LetsGo s.number held before.seats after.seats before.net after.net client client' → StoppedBy s s' before after served left
stops_idle s s' before after served left None client client' was is a go =
    stops_none s s' before after served left was is a go.closes.0 (subst (λ (n : NetState). OnlyFaults n after.net) go.closes.1 go.detaches.0)
stops_idle s s' before after served left (Some r) client client' was is a go =
    let k = go.closes in
    stops_conn s s' before after served left (Resting r) r.link k.old k.new was is a k.was k.seats k.closed.closes (rested_stood r go.meaning.no_loop) (same_self r.link) go.meaning.dial
    (ends_before before.net go.between after.net r.link (net_buries before.net go.between r.link k.closed.buries) (net_faults go.between after.net go.detaches.0))

-- the connection of an exchange is closed
stops_busy : (s s' : SessionNow) (before after : Around) (served : Option Served) (left : Leave) (b : BusyNow) (mid : NetState) → s.conn ≡ Some (OnConn b) → s'.conn ≡ None
    → HasAround s.worker s.number (Some (OnConn b)) before.seats → IsBusy b → ClosesAt before.seats after.seats b.server.0 s.number b.id before.net mid b.link → OnlyFaults mid after.net → StoppedBy s s' before after served left
stops_busy s s' before after served left b mid was is a meaning k faults =
    let l = k.detached in
    stops_conn s s' before after served left (OnConn b) l k.old k.new was is a k.was k.seats k.closed.closes k.detaches.1 (detaches_same before.net k.between b.link l k.detaches)
    (subst (λ (x : LinkState). TellsDial b.server b.id x) (sym k.detaches.1) meaning.dial)
    (ends_before before.net mid after.net l (ends_after before.net k.between mid l (net_faults before.net k.between k.detaches.0) (net_buries k.between mid l k.closed.buries)) (net_faults mid after.net faults))

-- the seats and the net behind what the stop made of the stage
stops_by : (front : ℕ) (d : DeskNow) (st : StageNow) (s' : SessionNow) (turns : List ℕ) (seats mids news : List History) (net mid net' : NetState) (served : Option Served) (left : Leave) (held : Option RestedNow) (client client' : LinkState)
    → s'.conn ≡ None → HasAround d.worker d.session (conn_seen st) seats → StopCloses st d.session seats mids net mid held → LetsGo d.session held mids news mid net' client client'
    → StoppedBy (session_seen front d st) s' (around_with seats turns net) (around_with news turns net') served left
stops_by front d (Exchanging e) s' turns seats mids news net mid net' served left held client client' is a k go =
    let gone = subst (λ (o : Option RestedNow). LetsGo d.session o mids news mid net' client client') k.0 go in
    let same : mids ≡ news = sym gone.closes.0 in
    stops_busy (session_seen front d (Exchanging e)) s' (around_with seats turns net) (around_with news turns net') served left e.busy mid refl is a k.1
    (subst (λ (hs : List History). ClosesAt seats hs e.busy.server.0 d.session e.busy.id net mid e.busy.link) same k.2) (subst (λ (n : NetState). OnlyFaults n net') gone.closes.1 gone.detaches.0)
stops_by front d (Reading h) s' turns seats mids news net mid net' served left held client client' is a k go =
    stops_idle (session_seen front d (Reading h)) s' (around_with seats turns net) (around_with news turns net') served left held client client' (sym k.0) is (subst (λ (c : Option Holding). HasAround d.worker d.session c seats) (sym k.0) a)
    (subst (λ (hs : List History). LetsGo d.session held hs news net net' client client') k.1 (subst (λ (n : NetState). LetsGo d.session held mids news n net' client client') k.2 go))
stops_by front d (Choosing c) s' turns seats mids news net mid net' served left held client client' is a k go =
    stops_idle (session_seen front d (Choosing c)) s' (around_with seats turns net) (around_with news turns net') served left held client client' (sym k.0) is (subst (λ (c : Option Holding). HasAround d.worker d.session c seats) (sym k.0) a)
    (subst (λ (hs : List History). LetsGo d.session held hs news net net' client client') k.1 (subst (λ (n : NetState). LetsGo d.session held mids news n net' client client') k.2 go))
stops_by front d (Answering x) s' turns seats mids news net mid net' served left held client client' is a k go =
    stops_idle (session_seen front d (Answering x)) s' (around_with seats turns net) (around_with news turns net') served left held client client' (sym k.0) is (subst (λ (c : Option Holding). HasAround d.worker d.session c seats) (sym k.0) a)
    (subst (λ (hs : List History). LetsGo d.session held hs news net net' client client') k.1 (subst (λ (n : NetState). LetsGo d.session held mids news n net' client client') k.2 go))
stops_by front d Left s' turns seats mids news net mid net' served left held client client' is a k go =
    stops_idle (session_seen front d Left) s' (around_with seats turns net) (around_with news turns net') served left held client client' (sym k.0) is (subst (λ (c : Option Holding). HasAround d.worker d.session c seats) (sym k.0) a)
    (subst (λ (hs : List History). LetsGo d.session held hs news net net' client client') k.1 (subst (λ (n : NetState). LetsGo d.session held mids news n net' client client') k.2 go))

stopped_none : (s : SessionNow) (client : LinkState) (served : Option Served) → (stopped s client served).conn ≡ None
stopped_none s client None = refl
stopped_none s client (Some r) = refl

pub stop_links : (front : ℕ) (d : DeskNow) (st : StageNow) (turns : List ℕ) (seats mids news : List History) (net mid net' : NetState) (served : Option Served) (left : Leave) (held : Option RestedNow) (client client' : LinkState)
    → net'.loop_no ≡ net.loop_no → HasAround d.worker d.session (conn_seen st) seats → StopCloses st d.session seats mids net mid held → LetsGo d.session held mids news mid net' client client'
    → RecordsTold (session_seen front d st) (stopped (session_seen front d st) client' served) (conn_told (conn_seen st)) (Some left) served
    → StopLinks (session_seen front d st) client' (around_with seats turns net) (around_with news turns net') served left
stop_links front d st turns seats mids news net mid net' served left held client client' loop a k go records =
    let s : SessionNow = session_seen front d st in
    let s' : SessionNow = stopped s client' served in
    let before : Around = around_with seats turns net in
    let after : Around = around_with news turns net' in
    let b = stops_by front d st s' turns seats mids news net mid net' served left held client client' (stopped_none s client' served) a k go in
    record {
      touch = b.touch;
      added = b.added;
      adds = adds_are s.worker s.number (is_first s) b.touch 0 seats news b.added b.adds;
      touched = b.touched;
      net = record { loop = loop; faults = b.faults };
      records = records_at s s' (conn_told s.conn) (stopped_of (stopping s s' before after b.added served left) b.touch b.touched) (Some left) served b.told records;
    }
