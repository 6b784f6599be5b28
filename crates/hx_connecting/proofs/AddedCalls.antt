-- The entries of a session's calls over the list of seats.
use Rattle.std.proofs.Common.{◌≡◌, ℕ, true, false, zero, suc, Bool, List, [], ◌∷◌, refl, sym, ap, subst, ◌∙◌, inl, inr, arith, Option, Some, None, ⊎_elim}
use Rattle.std.specs.Prelude.{IfSome}
use Rattle.std.specs.List.{slice_get, slice_set}
use Rattle.hx_base.specs.declared.numbers.ThreadNo.{ThreadNo}
use Rattle.hx_base.specs.declared.numbers.SessionNo.{SessionNo}
use Rattle.hx_base.specs.declared.numbers.ServerNo.{ServerNo}
use Rattle.hx_base.specs.declared.numbers.ConnId.{ConnId}
use Rattle.hx_base.specs.Shown.{Shown}
use Rattle.hx_message.specs.declared.MethodKind.{MethodKind}
use Rattle.hx_link.specs.Told.{LinkState}
use Rattle.hx_link.specs.Nets.{NetState}
use Rattle.hx_conn.specs.Conns.{RestedNow, BusyNow}
use Rattle.hx_conn.specs.Steps.{rested_of}
use Rattle.hx_conn.specs.WhatTold.{shown}
use Rattle.hx_pool.specs.declared.entries.Note.{Note}
use Rattle.hx_pool.specs.SeatView.{History}
use Rattle.hx_pool.specs.Opening.{Closes}
use Rattle.hx_connecting.specs.declared.connecting.Connected.{Connected}
use Rattle.hx_connecting.specs.declared.connecting.Connected.TheVariants.{Begun, Dead, Refused}
use Rattle.hx_connecting.specs.Adding.{SeatAdds, AddsFor, TouchesSeats, SomeTouches, RestTouches}
use Rattle.hx_config.specs.declared.parts.Server.{Server}
use Rattle.hx_pool.specs.Opening.{ReadsGate}
use Rattle.hx_connecting.specs.Around.{HasAround, resting}
use Rattle.hx_connecting.specs.Choice.{AskedAll, Chooses, in_turn}
use Rattle.hx_connecting.specs.Closing.{ClosesAt, ClosesHeld, ConnectsTo}
use Rattle.hx_connecting.specs.Connecting.{Connects, TriesRested}
use Rattle.hx_connecting.specs.Sessions.{Holding, Exchanging}
use Rattle.hx_connecting.specs.Settling.{SettlesAs, RestsAs}
use Rattle.hx_connecting.specs.Touches.{Touch, touch_marks, went_marks, Had, Went, Stays, Rests, Ends, EndsTakenBack}
use Rattle.hx_connecting.specs.Touched.{SeatMarks, marks_for, AllStand}
use Rattle.hx_connecting.proofs.AddingLemmas.{seat_adds, nothing, joined, adds_set, adds_no_touch, adds_touch, adds_then, adds_stand, holds_stand}
use Rattle.hx_connecting.proofs.AroundLemmas.{holds_here, numbered_here}
use Rattle.hx_connecting.proofs.ParkLemmas.{parks_seat, refused_end}
use Rattle.hx_connecting.proofs.TouchLemmas.{closes_seat, connects_touch, marked_gate}
use Rattle.hx_connecting.proofs.WantedLemmas.{OpenNone, connects_wanted}

pub server_same : (a b : ServerNo) → a.0 ≡ b.0 → a ≡ b
server_same a b e = let made : ℕ → ServerNo = λ k. record { 0 = k } in ap made e

-- a connection that the session had, and where it went
abbrev pub had : ServerNo → ConnId → Went → Touch
had v id went = record { server = v; id = id; came = Had; went = went }

-- where the seats are as they were
pub touches_none : (t : ThreadNo) (n : SessionNo) (first : Bool) (olds news : List History) → AllStand olds → news ≡ olds → TouchesSeats t n first None olds news
touches_none t n first olds news all same = record { added = nothing olds; adds = subst (λ (hs : List History). AddsFor t n first None olds hs (nothing olds)) (sym same) (adds_no_touch t n first olds all) }

-- one seat changed
touches_at : (t : ThreadNo) (n : SessionNo) (first : Bool) (c : Option Holding) (x : Touch) (olds news : List History) (old new : History) → HasAround t n c olds → slice_get olds x.server.0 ≡ Some old
    → news ≡ slice_set olds x.server.0 new → OpenNone (touch_marks old.about.thread n first x) → SeatMarks old new n (touch_marks old.about.thread n first x) → TouchesSeats t n first (Some x) olds news
touches_at t n first c x olds news old new a there is none s =
    let at = holds_here t n c 0 x.server.0 olds old there a.holds in record {
      added = slice_set (nothing olds) x.server.0 s.added;
      adds = subst (λ (hs : List History). AddsFor t n first (Some x) olds hs (slice_set (nothing olds) x.server.0 s.added)) (sym is)
          (adds_touch t n first x olds old new s.added (holds_stand t n c 0 olds a.holds) there at.0 (seat_adds old new n first (touch_marks old.about.thread n first x) none s));
    }

pub went_none : (t : ThreadNo) (n : SessionNo) (id : ConnId) (went : Went) → OpenNone (went_marks t n id went)
went_none t n id Stays = tt
went_none t n id (Rests place uses) = (tt, tt)
went_none t n id Ends = (tt, tt)
went_none t n id (EndsTakenBack place uses) = (tt, (tt, (tt, tt)))

pub closed_touches : (t : ThreadNo) (n : SessionNo) (first : Bool) (c : Option Holding) (v : ServerNo) (id : ConnId) (olds news : List History) (old new : History) → HasAround t n c olds → slice_get olds v.0 ≡ Some old
    → news ≡ slice_set olds v.0 new → Closes old new n id → TouchesSeats t n first (Some (had v id Ends)) olds news
closed_touches t n first c v id olds news old new a there is closes = touches_at t n first c (had v id Ends) olds news old new a there is (tt, tt) (closes_seat old new n id closes)

-- a connection that carries an exchange is closed
pub busy_touches : (t : ThreadNo) (n : SessionNo) (first : Bool) (c : Option Holding) (v : ServerNo) (id : ConnId) (olds news : List History) (net net' : NetState) (link : LinkState) → HasAround t n c olds
    → ClosesAt olds news v.0 n id net net' link → TouchesSeats t n first (Some (had v id Ends)) olds news
busy_touches t n first c v id olds news net net' link a k = closed_touches t n first c v id olds news k.old k.new a k.was k.seats k.closed.closes

-- and one that rests with the session
pub held_touches : (t : ThreadNo) (n : SessionNo) (first : Bool) (c : Option Holding) (v : ServerNo) (id : ConnId) (olds news : List History) (net net' : NetState) (link : LinkState) → HasAround t n c olds
    → ClosesHeld olds news v.0 n id net net' link → TouchesSeats t n first (Some (had v id Ends)) olds news
held_touches t n first c v id olds news net net' link a k = closed_touches t n first c v id olds news k.old k.new a k.was k.seats k.closed.closes

set_same : (olds : List History) (j : ℕ) (h : History) → slice_get olds j ≡ Some h → slice_set olds j h ≡ olds
set_same [] j h there = cc
set_same (o ∷ olds) zero h there = ap (λ (q : History). q ∷ olds) (some_is h o (sym there))
  where
    some_is : (x y : History) → Some x ≡ Some y → x ≡ y
    some_is x y e = cc
set_same (o ∷ olds) (suc j) h there = ap (λ (l : List History). o ∷ l) (set_same olds j h there)

settled : (t : ThreadNo) (n : SessionNo) (first : Bool) (c : Option Holding) (olds news : List History) (old new : History) (r : RestedNow) (net net' : NetState) (q : Option RestedNow) → HasAround t n c olds
    → slice_get olds r.server.0 ≡ Some old → news ≡ slice_set olds r.server.0 new → SettlesAs old new n r net net' q → RestTouches t n first olds news q
settled t n first c olds news old new r net net' (Some p) a there is k =
    let same : news ≡ olds = is ∙ (ap (λ (h : History). slice_set olds r.server.0 h) k.2 ∙ set_same olds r.server.0 old there) in
    (None, inl refl, touches_none t n first olds news (holds_stand t n c 0 olds a.holds) same)
settled t n first c olds news old new r net net' None a there is k = ⊎_elim
    (λ p.
    let went : Went = Rests p.0 r.uses in
    (Some (had r.server r.id went), inr refl, touches_at t n first c (had r.server r.id went) olds news old new a there is (went_none old.about.thread n r.id went) (parks_seat old new n p.0 (shown r) p.1)))
    (λ p.
    let id : p.2.id ≡ r.id = ap (λ (s : Shown). s.face.id) p.5 in
    let e = refused_end old p.0 new n (shown r) p.1 p.3 (subst (λ (i : ConnId). Closes p.0 new n i) id p.6.closes) in
    (Some (had r.server r.id e.went), inr refl, touches_at t n first c (had r.server r.id e.went) olds news old new a there is (went_none old.about.thread n r.id e.went) e.seat))
    k.1

-- a connection whose exchange passed
pub rests_touches : (t : ThreadNo) (n : SessionNo) (first : Bool) (olds news : List History) (b : BusyNow) (net net' : NetState) (q : Option RestedNow) → HasAround t n (Some (Exchanging b)) olds
    → RestsAs olds news n b net net' q → RestTouches t n first olds news q
rests_touches t n first olds news b net net' q a k = ⊎_elim
    (λ s. settled t n first (Some (Exchanging b)) olds news s.3.old s.3.new (rested_of b) s.0 net' q a s.3.was s.3.seats s.3.settles)
    (λ s. (Some (had b.server b.id Ends), inr s.2, busy_touches t n first (Some (Exchanging b)) b.server b.id olds news net net' b.link a s.3))
    k

connect_one : {X : Type 0} (t : ThreadNo) (n : SessionNo) (first : Bool) (c : Option Holding) (server : ServerNo) (olds news : List History) (old new : History) (now : ℕ) (m : MethodKind) (net net' : NetState) (d : Connected X)
    → HasAround t n c olds → slice_get olds server.0 ≡ Some old → news ≡ slice_set olds server.0 new → Connects old new n first server now m net net' d
    → (touch : Option Touch) → IfSome touch (λ x. x.server ≡ server) → (s : SeatMarks old new n (marks_for old.about.thread n first touch)) → SomeTouches t n first olds news
connect_one t n first c server olds news old new now m net net' d a there is k None at s =
    let all = holds_stand t n c 0 olds a.holds in
    let es : List (List Note) = slice_set (nothing olds) server.0 s.added in
    let one : SeatAdds old new n first [] s.added = record { makes = s.makes; marked = s.marked; wanted = connects_wanted old new n first server now m net net' d k s.added s.makes.makes } in (
      None,
      record {
        added = es;
        adds = subst (λ (hs : List History). AddsFor t n first None olds hs es) (sym is) (adds_set n first (λ k. []) 0 server.0 olds old new s.added all there one (λ k le ne. refl));
      },
    )
connect_one t n first c server olds news old new now m net net' d a there is k (Some x) at s =
    let all = holds_stand t n c 0 olds a.holds in
    let here : slice_get olds x.server.0 ≡ Some old = ap (λ (v : ServerNo). slice_get olds v.0) at ∙ there in
    let es : List (List Note) = slice_set (nothing olds) x.server.0 s.added in
    let set : news ≡ slice_set olds x.server.0 new = is ∙ ap (λ (v : ServerNo). slice_set olds v.0 new) (sym at) in
    let one : SeatAdds old new n first (touch_marks old.about.thread n first x) s.added = record { makes = s.makes; marked = s.marked; wanted = connects_wanted old new n first server now m net net' d k s.added s.makes.makes } in (
      Some x,
      record {
        added = es;
        adds = subst (λ (hs : List History). AddsFor t n first (Some x) olds hs es) (sym set)
            (adds_touch t n first x olds old new s.added all here (holds_here t n c 0 x.server.0 olds old here a.holds).0 one);
      },
    )

held_one : {X : Type 0} (t : ThreadNo) (n : SessionNo) (first : Bool) (c : Option Holding) (server : ServerNo) (olds news : List History) (old new : History) (r : RestedNow) (now : ℕ) (m : MethodKind) (net net' : NetState)
    (d : Connected X) → HasAround t n c olds → slice_get olds server.0 ≡ Some old → news ≡ slice_set olds server.0 new → TriesRested old new n r now m net net' d → SomeTouches t n first olds news
held_one t n first c server olds news old new r now m net net' (Begun busy fresh) a there is k =
    let same : news ≡ olds = is ∙ (ap (λ (h : History). slice_set olds server.0 h) k.0 ∙ set_same olds server.0 old there) in
    (None, touches_none t n first olds news (holds_stand t n c 0 olds a.holds) same)
held_one t n first c server olds news old new r now m net net' Dead a there is k =
    (Some (had server r.id Ends), closed_touches t n first c server r.id olds news old new a there is k.3.closes)
held_one t n first c server olds news old new r now m net net' Refused a there is k = absurd k

-- a session that connects
pub connects_touches : {X : Type 0} (t : ThreadNo) (n : SessionNo) (first : Bool) (server : ServerNo) (olds news : List History) (now : ℕ) (m : MethodKind) (net net' : NetState) (held : Option RestedNow) (d : Connected X)
    → HasAround t n (resting held) olds → ConnectsTo olds news n first server now m net net' held d → SomeTouches t n first olds news
connects_touches t n first server olds news now m net net' None d a k =
    let here : k.old.about.server ≡ server = server_same k.old.about.server server (numbered_here 0 server.0 olds k.old k.was a.servers ∙ omega arith) in
    let x = connects_touch k.old k.new n first server now m net net' d here k.tries in
    connect_one t n first None server olds news k.old k.new now m net net' d a k.was k.seats k.tries x.touch x.at_server x.seat
connects_touches t n first server olds news now m net net' (Some r) d a k = held_one t n first (resting (Some r)) server olds news k.old k.new r now m net net' d a k.was k.seats k.tries.1

-- calls that touched no connection, and then others
pub touches_then : (t : ThreadNo) (n : SessionNo) (first : Bool) (x y : Option Touch) (xs bs cs : List History) → x ≡ None → TouchesSeats t n first x xs bs → TouchesSeats t n first y bs cs → TouchesSeats t n first y xs cs
touches_then t n first x y xs bs cs none a b =
    let before : AddsFor t n first None xs bs a.added = subst (λ (o : Option Touch). AddsFor t n first o xs bs a.added) none a.adds in
    record { added = joined a.added b.added; adds = adds_then t n first y xs bs cs a.added b.added before b.adds }

pub touches_stand : (t : ThreadNo) (n : SessionNo) (first : Bool) (x : Option Touch) (xs bs : List History) → TouchesSeats t n first x xs bs → AllStand bs
touches_stand t n first x xs bs k = adds_stand n first _ 0 xs bs k.added k.adds

-- a gate that was read
gate_touches : (t : ThreadNo) (n : SessionNo) (first : Bool) (ready : Bool) (j : ℕ) (olds : List History) (old new : History) → AllStand olds → slice_get olds j ≡ Some old → ReadsGate old new ready
    → TouchesSeats t n first None olds (slice_set olds j new)
gate_touches t n first ready j olds old new all there k =
    let s : SeatMarks old new n [] = record { added = _; makes = k; marked = marked_gate n old.about.thread _ } in
    record { added = slice_set (nothing olds) j s.added; adds = adds_set n first (λ k. []) 0 j olds old new s.added all there (seat_adds old new n first [] tt s) (λ k le ne. refl) }

-- the seats that were asked
pub asked_touches : (t : ThreadNo) (n : SessionNo) (first : Bool) (xs : List Server) (ready : Bool) (olds news : List History) → AllStand olds → AskedAll xs ready olds news → TouchesSeats t n first None olds news
asked_touches t n first [] ready olds news all same = touches_none t n first olds news all same
asked_touches t n first (x ∷ xs) ready olds news all (old, new, mids, there, reads, is, rest) =
    let one : TouchesSeats t n first None olds mids = subst (λ (hs : List History). TouchesSeats t n first None olds hs) (sym is) (gate_touches t n first ready x.no.0 olds old new all there reads) in
    touches_then t n first None None olds mids news refl one (asked_touches t n first xs ready mids news (touches_stand t n first None olds mids one) rest)

-- a choice of a server
pub chooses_touches : (t : ThreadNo) (n : SessionNo) (first : Bool) (servers : List Server) (turn turn' : ℕ) (olds news : List History) (server : Option ServerNo) → AllStand olds → Chooses servers turn turn' olds news server
    → TouchesSeats t n first None olds news
chooses_touches t n first servers turn turn' olds news None all k = asked_touches t n first (in_turn servers turn) false olds news all k.drained
chooses_touches t n first servers turn turn' olds news (Some v) all k =
    let drained = asked_touches t n first k.passed false olds k.mids all k.drained in
    touches_then t n first None None olds k.mids news refl drained (asked_touches t n first (k.chosen ∷ []) true k.mids news (touches_stand t n first None olds k.mids drained) k.ready)
