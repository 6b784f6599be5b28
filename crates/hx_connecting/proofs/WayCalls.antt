-- The way of a session's connection through its calls over the list of seats.
use Rattle.std.proofs.Common.{◌≡◌, ◌≤◌, ℕ, ◌+◌, zero, suc, false, Bool, List, [], ◌∷◌, ◌++◌, refl, sym, ap, subst, ◌∙◌, inl, inr, arith, Option, Some, None, ⊎_elim}
use Rattle.std.specs.Prelude.{IfSome, Contains}
use Rattle.std.specs.List.{slice_get, slice_set}
use Rattle.hx_base.specs.declared.numbers.ThreadNo.{ThreadNo}
use Rattle.hx_base.specs.declared.numbers.SessionNo.{SessionNo}
use Rattle.hx_base.specs.declared.numbers.ServerNo.{ServerNo}
use Rattle.hx_base.specs.declared.numbers.ConnId.{ConnId}
use Rattle.hx_base.specs.Shown.{Shown}
use Rattle.hx_message.specs.declared.MethodKind.{MethodKind}
use Rattle.hx_link.specs.Told.{LinkState, IsCounted}
use Rattle.hx_link.specs.Nets.{NetState, OnlyFaults, TellsDial}
use Rattle.hx_conn.specs.Conns.{RestedNow, BusyNow, IsRested, IsBusy}
use Rattle.hx_conn.specs.Steps.{rested_of, refusal, ProbesOk, BeginsOk}
use Rattle.hx_conn.specs.WhatTold.{shown, what_of_link}
use Rattle.hx_pool.specs.declared.entries.Entry.{Entry}
use Rattle.hx_pool.specs.declared.entries.Entry.TheVariants.{Park}
use Rattle.hx_pool.specs.declared.entries.Note.{Note}
use Rattle.hx_pool.specs.SeatView.{About, History, Makes}
use Rattle.hx_pool.specs.History.{marks_of}
use Rattle.hx_base.specs.declared.rules.Mode.TheVariants.{Never}
use Rattle.hx_conn.specs.declared.causes.RestCause.{RestCause}
use Rattle.hx_connecting.specs.Closings.{ClosesFor, call_of, ended_at_rest}
use Rattle.hx_connecting.specs.Outcomes.{Outcome, Leaving, CloseNone}
use Rattle.hx_connecting.proofs.CauseLemmas.{causes_always, dead_cause}
use Rattle.hx_pool.specs.Opening.{Closes}
use Rattle.hx_record.specs.declared.served.Served.{Served}
use Rattle.hx_connecting.specs.declared.connecting.Connected.{Connected}
use Rattle.hx_connecting.specs.declared.connecting.Connected.TheVariants.{Begun, Dead, Refused}
use Rattle.hx_connecting.specs.Adding.{SeatAdds, EachAdds, AddsFor}
use Rattle.hx_connecting.specs.Around.{HasAround, resting}
use Rattle.hx_connecting.specs.Closing.{ClosesAt, ClosesHeld, ConnectsTo}
use Rattle.hx_connecting.specs.Connecting.{Connects, TriesRested, TriesNew, Dies}
use Rattle.hx_connecting.specs.Sessions.{SessionNow, Holding, Resting, Exchanging, admitted, conn_server}
use Rattle.hx_connecting.specs.Settling.{SettlesAs, RestsAs}
use Rattle.hx_connecting.specs.Touched.{SeatMarks, marks_for, ComesTo, conn_after, GoesFor, AllStand}
use Rattle.hx_connecting.specs.Touches.{Touch, touch_marks, Rests, Ends}
use Rattle.hx_connecting.specs.Ways.{NetStays, ConnStays, StaysWith, StaysOn, WayOf, WayAt, WayFor, SomeWay, RestWay}
use Rattle.hx_connecting.proofs.AddedCalls.{had, went_none, server_same}
use Rattle.hx_connecting.proofs.AddingLemmas.{seat_adds, nothing, joined, adds_set, adds_no_touch, adds_touch, adds_then, holds_stand}
use Rattle.hx_connecting.proofs.AroundLemmas.{holds_here, numbered_here, seat_set}
use Rattle.hx_connecting.proofs.NetLemmas.{NetEnds, net_then, net_is, net_faults, net_buries, ends_after, ends_before}
use Rattle.hx_connecting.proofs.ParkLemmas.{parks_at, refused_end}
use Rattle.hx_connecting.proofs.TouchLemmas.{closes_seat, connects_touch}
use Rattle.hx_connecting.proofs.TouchedCalls.{IsPassed, EndsFor, CauseAt, ends_way, busy_way, held_way, kept_stays, parked_way, refused_way}
use Rattle.hx_connecting.proofs.WantedLemmas.{OpenNone, connects_wanted}
use Rattle.hx_connecting.proofs.WayLemmas.{attach_dials, begun_same, bury_dials, bury_gains, dies_so, gains_eq, probe_counts}
use Rattle.hx_connecting.proofs.WayStays.{stays_then, way_on, way_wider}

some_is : {A : Type 0} (x y : A) → Some x ≡ Some y → x ≡ y
some_is x y e = cc

not_some : {A : Type 0} (x : A) → Some x ≡ None → ⊥
not_some x e = cc

-- what stands at a place of a list that was set there
set_there : {A : Type 0} (xs : List A) (j : ℕ) (x y : A) → slice_get xs j ≡ Some x → slice_get (slice_set xs j y) j ≡ Some y
set_there [] j x y e = cc
set_there (z ∷ xs) zero x y e = refl
set_there (z ∷ xs) (suc j) x y e = set_there xs j x y e

nothing_there : (hs : List History) (j : ℕ) (h : History) → slice_get hs j ≡ Some h → slice_get (nothing hs) j ≡ Some []
nothing_there [] j h e = cc
nothing_there (x ∷ hs) zero h e = refl
nothing_there (x ∷ hs) (suc j) h e = nothing_there hs j h e

-- the entries of a call at the seat that it changed
entries_at : (hs : List History) (j : ℕ) (h : History) (es : List Note) → slice_get hs j ≡ Some h → slice_get (slice_set (nothing hs) j es) j ≡ Some es
entries_at hs j h es there = set_there (nothing hs) j [] es (nothing_there hs j h there)

way_at : (t : ThreadNo) (n : SessionNo) (c c' : Option Holding) (z : Outcome) (x : Touch) (olds news : List History) (old new : History) (es : List Note) (net net' : NetState) (served : Option Served) → slice_get olds x.server.0 ≡ Some old
    → news ≡ slice_set olds x.server.0 new → net.faults ≤ net'.faults → WayOf t n c c' z new es net net' x served → WayAt t n c c' z news (slice_set (nothing olds) x.server.0 es) net net' x served
way_at t n c c' z x olds news old new es net net' served there is faults way = record {
  history = new;
  es = es;
  seat = subst (λ (hs : List History). slice_get hs x.server.0 ≡ Some new) (sym is) (seat_set x.server.0 olds old new there);
  entries = entries_at olds x.server.0 old es there;
  faults = faults;
  way = way;
}

-- the calls at one seat, which opened nothing
some_at : (t : ThreadNo) (n : SessionNo) (first : Bool) (c c' d : Option Holding) (z : Outcome) (x : Touch) (olds news : List History) (old new : History) (net net' : NetState) (served : Option Served) → HasAround t n d olds
    → slice_get olds x.server.0 ≡ Some old → news ≡ slice_set olds x.server.0 new → OpenNone (touch_marks old.about.thread n first x) → (s : SeatMarks old new n (touch_marks old.about.thread n first x))
    → net.faults ≤ net'.faults → WayOf t n c c' z new s.added net net' x served → SomeWay t n first c c' z olds news net net' served
some_at t n first c c' d z x olds news old new net net' served a there is none s faults way =
    let at = holds_here t n d 0 x.server.0 olds old there a.holds in
    let es : List (List Note) = slice_set (nothing olds) x.server.0 s.added in
    record {
      touch = Some x;
      at = record {
        added = es;
        adds = subst (λ (hs : List History). AddsFor t n first (Some x) olds hs es) (sym is)
            (adds_touch t n first x olds old new s.added (holds_stand t n d 0 olds a.holds) there at.0 (seat_adds old new n first (touch_marks old.about.thread n first x) none s));
      };
      way = way_at t n c c' z x olds news old new s.added net net' served there is faults way;
    }

-- no call of a seat
some_none : (t : ThreadNo) (n : SessionNo) (first : Bool) (c c' : Option Holding) (z : Outcome) (olds news : List History) (net net' : NetState) (served : Option Served) → AllStand olds → news ≡ olds → StaysWith c c' served → NetStays net net'
    → SomeWay t n first c c' z olds news net net' served
some_none t n first c c' z olds news net net' served all same stays net_stays = record {
  touch = None;
  at = record { added = nothing olds; adds = subst (λ (hs : List History). AddsFor t n first None olds hs (nothing olds)) (sym same) (adds_no_touch t n first olds all) };
  way = (stays, net_stays);
}

-- a connection that carries an exchange is closed
pub busy_some : (t : ThreadNo) (n : SessionNo) (first : Bool) (b : BusyNow) (z : Outcome) (olds news : List History) (net net' : NetState) (served : Option Served) → HasAround t n (Some (Exchanging b)) olds → IsBusy b
    → CauseAt n b z net net' served → ClosesAt olds news b.server.0 n b.id net net' b.link → SomeWay t n first (Some (Exchanging b)) None z olds news net net' served
busy_some t n first b z olds news net net' served a meaning cause k =
    let x : Touch = had b.server b.id Ends in
    let s = closes_seat k.old k.new n b.id k.closed.closes in
    let ends = ends_after net k.between net' k.detached (net_faults net k.between k.detaches.0) (net_buries k.between net' k.detached k.closed.buries) in
    some_at t n first (Some (Exchanging b)) None (Some (Exchanging b)) z x olds news k.old k.new net net' served a k.was k.seats (tt, tt) s ends.faults
    (busy_way t n b z k.new s.added net k.between net' k.detached served meaning k.detaches k.closed.buries cause)

set_same : (olds : List History) (j : ℕ) (h : History) → slice_get olds j ≡ Some h → slice_set olds j h ≡ olds
set_same [] j h there = cc
set_same (o ∷ olds) zero h there = ap (λ (q : History). q ∷ olds) (some_is h o (sym there))
set_same (o ∷ olds) (suc j) h there = ap (λ (l : List History). o ∷ l) (set_same olds j h there)

-- a connection whose exchange passed settles
settled_way : (t : ThreadNo) (n : SessionNo) (first : Bool) (b : BusyNow) (z : Outcome) (olds news : List History) (old new : History) (net mid net' : NetState) (q : Option RestedNow) (served : Option Served)
    → HasAround t n (Some (Exchanging b)) olds → slice_get olds b.server.0 ≡ Some old → news ≡ slice_set olds b.server.0 new → OnlyFaults net mid → IsPassed served → EndsFor b served → IsCounted b.link
    → SettlesAs old new n (rested_of b) mid net' q → RestWay t n first (Some (Exchanging b)) z olds news net net' q served
settled_way t n first b z olds news old new net mid net' (Some p) served a there is faults passed ends counted k =
    let same : news ≡ olds = is ∙ (ap (λ (h : History). slice_set olds b.server.0 h) k.2 ∙ set_same olds b.server.0 old there) in
    let kept : StaysWith (Some (Exchanging b)) (Some (Resting p)) served = (
      Resting p,
      refl,
      subst (λ (r : RestedNow). ConnStays (Exchanging b) (Resting r) served) (sym k.1) (kept_stays b served passed ends counted),
    ) in
    record {
      touch = None;
      may = inl refl;
      at = record { added = nothing olds; adds = subst (λ (hs : List History). AddsFor t n first None olds hs (nothing olds)) (sym same) (adds_no_touch t n first olds (holds_stand t n (Some (Exchanging b)) 0 olds a.holds)) };
      way = (kept, net_then net mid net' (net_faults net mid faults) (net_is mid net' k.3));
    }
settled_way t n first b z olds news old new net mid net' None served a there is faults passed ends counted k =
    let r = rested_of b in
    let c : Option Holding = Some (Exchanging b) in
    let thread = (holds_here t n c 0 b.server.0 olds old there a.holds).0 in
    let w : SomeWay t n first c None z olds news net net' served = ⊎_elim
    (λ p.
    let at = parks_at old new n p.0 (shown r) p.1 in
    let x : Touch = had b.server b.id (Rests p.0 (b.uses + 1)) in
    let stays = net_then net mid net' (net_faults net mid faults) (net_is mid net' p.2) in
    let there : Contains at.seat.added (record { entry = Park t n b.id p.0 (b.uses + 1); what = Some (what_of_link r.link) }) =
    subst (λ (u : ThreadNo). Contains at.seat.added (record { entry = Park u n b.id p.0 (b.uses + 1); what = Some (what_of_link r.link) })) thread at.there in
    some_at t n first c None c z x olds news old new net net' served a there_was is (went_none old.about.thread n b.id (Rests p.0 (b.uses + 1))) at.seat stays.faults
    (parked_way t n b z new at.seat.added net net' p.0 served passed ends stays there))
    (λ p.
    let v = p.2 in
    let what : what_of_link v.link ≡ what_of_link r.link = ap (λ (s : Shown). s.what) p.5 in
    let id : v.id ≡ b.id = ap (λ (s : Shown). s.face.id) p.5 in
    let server : v.server ≡ b.server = ap (λ (s : Shown). s.server) p.5 in
    let dial : TellsDial b.server b.id v.link = subst (λ (s : ServerNo). TellsDial s b.id v.link) server (subst (λ (i : ConnId). TellsDial v.server i v.link) id p.4.dial) in
    let e = refused_end old p.0 new n (shown r) p.1 p.3 (subst (λ (i : ConnId). Closes p.0 new n i) id p.6.closes) in
    let x : Touch = had b.server b.id e.went in
    let gone = ends_after net mid net' v.link (net_faults net mid faults) (net_buries mid net' v.link p.6.buries) in
    some_at t n first c None c z x olds news old new net net' served a there_was is (went_none old.about.thread n b.id e.went) e.seat gone.faults
    (refused_way t n b z v.link e.went new e.seat.added net net' served e.closed what dial gone passed e.front e.last e.entries e.none e.refused))
    k.1 in
    record { touch = w.touch; may = inr refl; at = w.at; way = w.way }
  where
    there_was : slice_get olds b.server.0 ≡ Some old
    there_was = there

-- a connection whose exchange passed
pub rests_way : (t : ThreadNo) (n : SessionNo) (first : Bool) (z : Outcome) (olds news : List History) (b : BusyNow) (net net' : NetState) (q : Option RestedNow) (served : Option Served) → HasAround t n (Some (Exchanging b)) olds
    → IsPassed served → (refusal b ≡ None → EndsFor b served) → IsCounted b.link → ((why : RestCause) → refusal b ≡ Some why → CauseAt n b z net net' served) → RestsAs olds news n b net net' q
    → RestWay t n first (Some (Exchanging b)) z olds news net net' q served
rests_way t n first z olds news b net net' q served a passed ends counted causes k = ⊎_elim
    (λ s. settled_way t n first b z olds news s.3.old s.3.new net s.0 net' q served a s.3.was s.3.seats s.1 passed (ends s.2) counted s.3.settles)
    (λ s.
    let w = busy_some t n first b z olds news net net' served a s.4 (causes s.0 s.1) s.3 in
    record { touch = w.touch; may = inr s.2; at = w.at; way = subst (λ (o : Option RestedNow). WayFor t n (Some (Exchanging b)) (resting o) z news w.at.added net net' w.touch served) (sym s.2) w.way })
    k

-- a session that isn't there
no_link : LinkState
no_link = record {
  faults = 0;
  read_waits = 0;
  read_wait_at = 0;
  read_waited = false;
  write_waits = 0;
  write_wait_at = 0;
  taken_count = 0;
  sent_count = 0;
  taken = None;
  sent = None;
  read_length = 0;
  write_length = 0;
  told_end = false;
  finished = false;
  on_loop = None;
  tag = None;
  dial = None;
  plan = None;
}

-- the net's faults don't fall where a session connects
dies_faults : (r : RestedNow) (now : ℕ) (link : LinkState) (net net' : NetState) → Dies r now link net net' → net.faults ≤ net'.faults
dies_faults r now link net net' d = ⊎_elim (λ a. omega (arith, ap (λ (s : NetState). s.faults) a.2)) (λ b. b.3.0.1) d

tries_faults : {X : Type 0} (old new : History) (n : SessionNo) (r : RestedNow) (now : ℕ) (m : MethodKind) (net net' : NetState) (c : Connected X) → TriesRested old new n r now m net net' c → net.faults ≤ net'.faults
tries_faults old new n r now m net net' (Begun busy fresh) k = k.2.2.0.0.1
tries_faults old new n r now m net net' Dead k = omega (arith, dies_faults r now k.1 net k.0 k.2, k.3.buries.1)
tries_faults old new n r now m net net' Refused k = absurd k

new_faults : {X : Type 0} (old new : History) (n : SessionNo) (server : ServerNo) (m : MethodKind) (net net' : NetState) (c : Connected X) → TriesNew old new n server m net net' c → net.faults ≤ net'.faults
new_faults old new n server m net net' (Begun busy fresh) k = omega (arith, ap (λ (s : NetState). s.faults) k.1.dialled.net, k.1.begins.0.0.1)
new_faults old new n server m net net' Dead k = absurd k
new_faults old new n server m net net' Refused k = ⊎_elim
    (λ e. omega (arith, ap (λ (s : NetState). s.faults) e.2))
    (λ z. ⊎_elim (λ x. x.1.fault.0) (λ y. omega (arith, ap (λ (s : NetState). s.faults) y.4.net, y.5.0.1, y.6.buries.1)) z.3)
    k

connects_faults : {X : Type 0} (old new : History) (n : SessionNo) (first : Bool) (server : ServerNo) (now : ℕ) (m : MethodKind) (net net' : NetState) (c : Connected X) → Connects old new n first server now m net net' c
    → net.faults ≤ net'.faults
connects_faults old new n first server now m net net' c k = ⊎_elim (λ a. tries_faults a.0 new n a.1 now m net net' c a.4) (λ b. new_faults b.0 new n server m net net' c b.2) k

none_after : {X : Type 0} (server : ServerNo) (d : Connected X) → ComesTo server d None → conn_after d ≡ None
none_after server (Begun busy fresh) k = absurd k
none_after server Dead k = absurd k
none_after server Refused k = refl

connect_way : {X : Type 0} (t : ThreadNo) (n : SessionNo) (first : Bool) (z : Outcome) (server : ServerNo) (olds news : List History) (old new : History) (now : ℕ) (m : MethodKind) (net net' : NetState) (d : Connected X) → HasAround t n None olds
    → slice_get olds server.0 ≡ Some old → news ≡ slice_set olds server.0 new → Connects old new n first server now m net net' d → (touch : Option Touch) → IfSome touch (λ x. x.server ≡ server)
    → (s : SeatMarks old new n (marks_for old.about.thread n first touch)) → ComesTo server d touch
    → ((s s' : SessionNow) (es : List Note) → Makes old new es → s.conn ≡ None → s'.conn ≡ conn_after d → GoesFor s s' new es net net' touch) → SomeWay t n first None (conn_after d) z olds news net net' None
connect_way t n first z server olds news old new now m net net' d a there is k None at s comes goes =
    let all = holds_stand t n None 0 olds a.holds in
    let es : List (List Note) = slice_set (nothing olds) server.0 s.added in
    let one : SeatAdds old new n first [] s.added = record { makes = s.makes; marked = s.marked; wanted = connects_wanted old new n first server now m net net' d k s.added s.makes.makes } in
    let none = none_after server d comes in
    let here : SessionNow = admitted t n 0 0 no_link in
    let stays = goes here here s.added s.makes.makes refl (sym none) in
    record {
      touch = None;
      at = record {
        added = es;
        adds = subst (λ (hs : List History). AddsFor t n first None olds hs es) (sym is) (adds_set n first (λ k. []) 0 server.0 olds old new s.added all there one (λ k le ne. refl));
      };
      way = ((none, tt), record { course = stays.course; dials = stays.dials; buries = stays.buries; faults = connects_faults old new n first server now m net net' d k });
    }
connect_way t n first z server olds news old new now m net net' d a there is k (Some x) at s comes goes =
    let all = holds_stand t n None 0 olds a.holds in
    let here : slice_get olds x.server.0 ≡ Some old = ap (λ (v : ServerNo). slice_get olds v.0) at ∙ there in
    let es : List (List Note) = slice_set (nothing olds) x.server.0 s.added in
    let set : news ≡ slice_set olds x.server.0 new = is ∙ ap (λ (v : ServerNo). slice_set olds v.0 new) (sym at) in
    let one : SeatAdds old new n first (touch_marks old.about.thread n first x) s.added = record { makes = s.makes; marked = s.marked; wanted = connects_wanted old new n first server now m net net' d k s.added s.makes.makes } in
    record {
      touch = Some x;
      at = record {
        added = es;
        adds = subst (λ (hs : List History). AddsFor t n first (Some x) olds hs es) (sym set)
            (adds_touch t n first x olds old new s.added all here (holds_here t n None 0 x.server.0 olds old here a.holds).0 one);
      };
      way = way_at t n None (conn_after d) z x olds news old new s.added net net' None here set (connects_faults old new n first server now m net net' d k)
          (λ s1 s2 was is2 by named. let y = goes s1 s2 s.added s.makes.makes was is2 in (y.0, y.1 None, tt, y.2 n z None));
    }

-- an exchange begins on a connection that the session had, or that is dead
begun_stays : (r p : RestedNow) (now : ℕ) (m : MethodKind) (net net' : NetState) (b : BusyNow) → ProbesOk r now p → BeginsOk p m net net' b → ConnStays (Resting r) (Exchanging b) None
begun_stays r p now m net net' b probes begins =
    let counts = probe_counts r now p.link probes.1 in
    record {
      server = ap (λ (x : BusyNow). x.server) begins.1 ∙ ap (λ (q : RestedNow). q.server) probes.0;
      id = ap (λ (x : BusyNow). x.id) begins.1 ∙ ap (λ (q : RestedNow). q.id) probes.0;
      link = begun_same r p now b net.loop_no probes (ap (λ (x : BusyNow). x.link) begins.1);
      goes = record {
        uses_are = ap (λ (x : BusyNow). x.uses) begins.1 ∙ ap (λ (q : RestedNow). q.uses) probes.0;
        sent_from = ap (λ (x : BusyNow). x.exchange.sent_from) begins.1 ∙ counts.0;
        taken_from = ap (λ (x : BusyNow). x.exchange.taken_from) begins.1 ∙ counts.1;
      };
      fits = tt;
    }

held_connects : {X : Type 0} (t : ThreadNo) (n : SessionNo) (first : Bool) (z : Outcome) (olds news : List History) (old new : History) (r : RestedNow) (now : ℕ) (m : MethodKind) (net net' : NetState) (d : Connected X) → HasAround t n (Some (Resting r)) olds
    → slice_get olds r.server.0 ≡ Some old → news ≡ slice_set olds r.server.0 new → IsRested r → TriesRested old new n r now m net net' d → SomeWay t n first (Some (Resting r)) (conn_after d) z olds news net net' None
held_connects t n first z olds news old new r now m net net' (Begun busy fresh) a there is meaning k =
    let same : news ≡ olds = is ∙ (ap (λ (h : History). slice_set olds r.server.0 h) k.0 ∙ set_same olds r.server.0 old there) in
    let p = k.2 in
    let stays = attach_dials net net' p.2.0.0 in
    some_none t n first (Some (Resting r)) (Some (Exchanging busy)) z olds news net net' None (holds_stand t n (Some (Resting r)) 0 olds a.holds) same (Exchanging busy, refl, begun_stays r p.0 now m net net' busy p.1 p.2)
    (record { course = stays.1; dials = stays.0; buries = gains_eq net.buried net'.buried (ap (λ (s : NetState). s.buried) p.2.0.0.0); faults = p.2.0.0.1 })
held_connects t n first z olds news old new r now m net net' Dead a there is meaning k =
    let dies = dies_so r now k.1 net k.0 meaning k.2 in
    let s = closes_seat old new n r.id k.3.closes in
    let buried = bury_dials net k.0 net' k.1 dies.dials dies.course k.3.buries in
    let gone : NetEnds net net' k.1 = record { course = buried.1; dials = buried.0; buries = bury_gains net.buried k.0.buried net'.buried k.1 dies.buried k.3.buries.3; faults = omega (arith, dies_faults r now k.1 net k.0 k.2, k.3.buries.1) } in
    some_at t n first (Some (Resting r)) None (Some (Resting r)) z (had r.server r.id Ends) olds news old new net net' None a there is (tt, tt) s gone.faults
    (ends_way t n (Resting r) z k.1 new s.added net net' None dies.same dies.dial gone (λ s was. tt)
    (λ s1 s2 was closed left number comes.
    causes_always (λ y id b. ClosesFor (call_of s1 s2 net net' new b (had r.server r.id Ends) (Some (what_of_link r.link)) (Some (what_of_link k.1)) None left))
    (λ y id b. ended_at_rest (inl (r, was)) (dead_cause r now k.1 net k.0 net' k.2 k.3.buries.1)) [] s.added))
held_connects t n first z olds news old new r now m net net' Refused a there is meaning k = absurd k

-- a session that connects
pub connects_way : {X : Type 0} (t : ThreadNo) (n : SessionNo) (first : Bool) (z : Outcome) (server : ServerNo) (olds news : List History) (now : ℕ) (m : MethodKind) (net net' : NetState) (held : Option RestedNow) (d : Connected X)
    → HasAround t n (resting held) olds → IfSome held (λ r. r.server ≡ server) → ConnectsTo olds news n first server now m net net' held d → SomeWay t n first (resting held) (conn_after d) z olds news net net' None
connects_way t n first z server olds news now m net net' None d a to k =
    let here : k.old.about.server ≡ server = server_same k.old.about.server server (numbered_here 0 server.0 olds k.old k.was a.servers ∙ omega arith) in
    let x = connects_touch k.old k.new n first server now m net net' d here k.tries in
    connect_way t n first z server olds news k.old k.new now m net net' d a k.was k.seats k.tries x.touch x.at_server x.seat x.comes x.goes
connects_way t n first z server olds news now m net net' (Some r) d a to k =
    held_connects t n first z olds news k.old k.new r now m net net' d a (ap (λ (v : ServerNo). slice_get olds v.0) to ∙ k.was) (k.seats ∙ ap (λ (v : ServerNo). slice_set olds v.0 k.new) (sym to)) k.tries.0 k.tries.1

-- the entries of calls stand seat by seat
adds_back : (n : SessionNo) (first : Bool) (f : ℕ → List Entry) (i : ℕ) (olds news : List History) (added : List (List Note)) (j : ℕ) (h : History) → EachAdds n first f i olds news added → slice_get news j ≡ Some h
    → (o : History) × (slice_get olds j ≡ Some o)
adds_back n first f i [] [] [] j h e there = cc
adds_back n first f i [] [] (es ∷ added) j h e there = absurd e
adds_back n first f i [] (k ∷ news) added j h e there = absurd e
adds_back n first f i (o ∷ olds) [] added j h e there = absurd e
adds_back n first f i (o ∷ olds) (k ∷ news) [] j h e there = absurd e
adds_back n first f i (o ∷ olds) (k ∷ news) (es ∷ added) zero h e there = (o, refl)
adds_back n first f i (o ∷ olds) (k ∷ news) (es ∷ added) (suc j) h e there = adds_back n first f (i + 1) olds news added j h e.1 there

pub adds_there : (n : SessionNo) (first : Bool) (f : ℕ → List Entry) (i : ℕ) (olds news : List History) (added : List (List Note)) (j : ℕ) (o : History) → EachAdds n first f i olds news added → slice_get olds j ≡ Some o
    → (h : History) × (es : List Note) × (slice_get news j ≡ Some h) × (slice_get added j ≡ Some es)
adds_there n first f i [] [] [] j o e there = cc
adds_there n first f i [] [] (es ∷ added) j o e there = absurd e
adds_there n first f i [] (k ∷ news) added j o e there = absurd e
adds_there n first f i (x ∷ olds) [] added j o e there = absurd e
adds_there n first f i (x ∷ olds) (k ∷ news) [] j o e there = absurd e
adds_there n first f i (x ∷ olds) (k ∷ news) (es ∷ added) zero o e there = (k, es, refl, refl)
adds_there n first f i (x ∷ olds) (k ∷ news) (es ∷ added) (suc j) o e there = adds_there n first f (i + 1) olds news added j o e.1 there

joined_there : (a b : List (List Note)) (j : ℕ) (xs ys : List Note) → slice_get a j ≡ Some xs → slice_get b j ≡ Some ys → slice_get (joined a b) j ≡ Some (xs ++ ys)
joined_there [] b j xs ys x y = cc
joined_there (u ∷ a) [] j xs ys x y = cc
joined_there (u ∷ a) (v ∷ b) zero xs ys x y = ap (λ (l : List Note). Some (l ++ v)) (some_is u xs x) ∙ ap (λ (l : List Note). Some (xs ++ l)) (some_is v ys y)
joined_there (u ∷ a) (v ∷ b) (suc j) xs ys x y = joined_there a b j xs ys x y

-- calls that touched no connection close none
adds_free : (n : SessionNo) (first : Bool) (i : ℕ) (olds news : List History) (added : List (List Note)) (j : ℕ) (es : List Note) → EachAdds n first (λ k. []) i olds news added → slice_get added j ≡ Some es → CloseNone (marks_of es)
adds_free n first i olds news [] j es e there = cc
adds_free n first i [] [] (x ∷ added) j es e there = absurd e
adds_free n first i [] (k ∷ news) (x ∷ added) j es e there = absurd e
adds_free n first i (o ∷ olds) [] (x ∷ added) j es e there = absurd e
adds_free n first i (o ∷ olds) (k ∷ news) (x ∷ added) zero es e there = subst (λ (l : List Note). CloseNone (marks_of l)) (some_is x es there) (subst CloseNone (sym e.0.marked.marks) tt)
adds_free n first i (o ∷ olds) (k ∷ news) (x ∷ added) (suc j) es e there = adds_free n first (i + 1) olds news added j es e.1 there

-- calls behind those with which an exchange went on
at_joined : (t : ThreadNo) (n : SessionNo) (first : Bool) (c k c' : Option Holding) (z : Outcome) (xs bs cs : List History) (a b : List (List Note)) (net net' : NetState) (x : Touch) (served : Option Served)
    → EachAdds n first (λ i. []) 0 xs bs a → AddsFor t n first (Some x) bs cs b → StaysOn c k → WayAt t n k c' z cs b net net' x served → WayAt t n c c' z cs (joined a b) net net' x served
at_joined t n first c k c' z xs bs cs a b net net' x served adds more on way =
    let j = x.server.0 in
    let mid = adds_back n first _ 0 bs cs b j way.history more way.seat in
    let was = adds_back n first (λ i. []) 0 xs bs a j mid.0 adds mid.1 in
    let es = adds_there n first (λ i. []) 0 xs bs a j was.0 adds was.1 in
    record {
      history = way.history;
      es = es.1 ++ way.es;
      seat = way.seat;
      entries = joined_there a b j es.1 way.es es.3 way.entries;
      faults = way.faults;
      way = way_wider t n c c' z way.history es.1 way.es net net' x served (adds_free n first 0 xs bs a j es.1 adds es.3) (way_on t n c k c' z way.history way.es net net' x served on way.way);
    }

pub way_joined : (t : ThreadNo) (n : SessionNo) (first : Bool) (c k c' : Option Holding) (z : Outcome) (xs bs cs : List History) (a b : List (List Note)) (old mid new : NetState) (x : Option Touch) (served : Option Served)
    → EachAdds n first (λ i. []) 0 xs bs a → AddsFor t n first x bs cs b → StaysOn c k → mid ≡ old → WayFor t n k c' z cs b mid new x served → WayFor t n c c' z cs (joined a b) old new x served
way_joined t n first c k c' z xs bs cs a b old mid new None served adds more on same way = (stays_then c k c' served on way.0, subst (λ (s : NetState). NetStays s new) same way.1)
way_joined t n first c k c' z xs bs cs a b old mid new (Some x) served adds more on same way =
    at_joined t n first c k c' z xs bs cs a b old new x served adds more on (subst (λ (s : NetState). WayAt t n k c' z cs b s new x served) same way)

-- what rests with the session is closed, behind calls that touched no connection
closes_then : (t : ThreadNo) (n : SessionNo) (first : Bool) (c : Holding) (r : RestedNow) (seats0 seats seats' : List History) (added : List (List Note)) (net0 net mid net' : NetState) (served : Option Served)
    → HasAround t n (Some (Resting r)) seats → AddsFor t n first None seats0 seats added → ConnStays c (Resting r) served → NetStays net0 net → IsRested r → ClosesHeld seats seats' r.server.0 n r.id net mid r.link → OnlyFaults mid net'
    → SomeWay t n first (Some c) None Leaving seats0 seats' net0 net' served
closes_then t n first c r seats0 seats seats' added net0 net mid net' served a adds stays kept meaning k faults =
    let x : Touch = had r.server r.id Ends in
    let j = r.server.0 in
    let s = closes_seat k.old k.new n r.id k.closed.closes in
    let es : List (List Note) = slice_set (nothing seats) j s.added in
    let thread = (holds_here t n (Some (Resting r)) 0 j seats k.old k.was a.holds).0 in
    let more : AddsFor t n first (Some x) seats seats' es = subst (λ (hs : List History). AddsFor t n first (Some x) seats hs es) (sym k.seats)
    (adds_touch t n first x seats k.old k.new s.added (holds_stand t n (Some (Resting r)) 0 seats a.holds) k.was thread (seat_adds k.old k.new n first (touch_marks k.old.about.thread n first x) (tt, tt) s)) in
    let was = adds_back n first _ 0 seats0 seats added j k.old adds k.was in
    let there = adds_there n first _ 0 seats0 seats added j was.0 adds was.1 in
    let gone = ends_before net0 mid net' r.link (ends_after net0 net mid r.link kept (net_buries net mid r.link k.closed.buries)) (net_faults mid net' faults) in
    let all : List Note = there.1 ++ s.added in
    let mode : k.old.about.rules.mode ≡ Never = subst (λ (h : History). h.about.rules.mode ≡ Never) (some_is a.never.0 k.old (sym a.never.1 ∙ k.was)) a.never.2 in
    let never : k.new.about.rules.mode ≡ Never = ap (λ (b : About). b.rules.mode) k.closed.closes.makes.about ∙ mode in
    record {
      touch = Some x;
      at = record { added = joined added es; adds = adds_then t n first (Some x) seats0 seats seats' added es adds more };
      way = record {
        history = k.new;
        es = all;
        seat = subst (λ (hs : List History). slice_get hs j ≡ Some k.new) (sym k.seats) (seat_set j seats k.old k.new k.was);
        entries = joined_there added es j there.1 s.added there.3 (entries_at seats j k.old s.added k.was);
        faults = gone.faults;
        way = subst (λ (v : ServerNo). WayOf t n (Some c) None Leaving k.new all net0 net' (had v r.id Ends) served) (sym stays.server)
            (subst (λ (i : ConnId). WayOf t n (Some c) None Leaving k.new all net0 net' (had (conn_server c) i Ends) served) (sym stays.id) (held_way t n c r k.new all net0 net' served never stays meaning gone));
      };
    }

pub held_then : (t : ThreadNo) (n : SessionNo) (first : Bool) (c : Option Holding) (r : RestedNow) (seats0 seats seats' : List History) (added : List (List Note)) (net0 net mid net' : NetState) (served : Option Served)
    → HasAround t n (Some (Resting r)) seats → AddsFor t n first None seats0 seats added → StaysWith c (Some (Resting r)) served → NetStays net0 net → IsRested r → ClosesHeld seats seats' r.server.0 n r.id net mid r.link
    → OnlyFaults mid net' → SomeWay t n first c None Leaving seats0 seats' net0 net' served
held_then t n first None r seats0 seats seats' added net0 net mid net' served a adds stays kept meaning k faults = absurd (not_some (Resting r) stays.0)
held_then t n first (Some c) r seats0 seats seats' added net0 net mid net' served a adds stays kept meaning k faults =
    closes_then t n first c r seats0 seats seats' added net0 net mid net' served a adds
    (subst (λ (q : Holding). ConnStays c q served) (some_is stays.0 (Resting r) (sym stays.1)) stays.2) kept meaning k faults
