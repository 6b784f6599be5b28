-- What the parts of a step touched, one behind another.
use Rattle.std.specs.Prelude.{IfSome}
use Rattle.std.proofs.Common.{◌≤◌, eqb, true, false, arith, eq-eqb, ne_eqb, ◌≡◌, ◌⊎◌, ℕ, ◌-◌, ◌==◌, Bool, List, refl, sym, ap, subst, ◌∙◌, inl, inr, Option, Some, None, ⊎_elim}
use Rattle.std.proofs.lemmas.Bool.{eqb-true, eqb-false}
use Rattle.hx_base.specs.declared.numbers.ThreadNo.{ThreadNo}
use Rattle.hx_base.specs.declared.numbers.SessionNo.{SessionNo}
use Rattle.hx_base.specs.declared.numbers.ServerNo.{ServerNo}
use Rattle.hx_config.specs.declared.parts.Server.{Server}
use Rattle.hx_conn.specs.Conns.{RestedNow, BusyNow}
use Rattle.hx_link.specs.Nets.{NetState, OnlyFaults}
use Rattle.hx_pool.specs.declared.entries.Note.{Note}
use Rattle.hx_link.specs.Told.{LinkState}
use Rattle.hx_pool.specs.SeatView.{History}
use Rattle.hx_record.specs.declared.served.Served.{Served}
use Rattle.hx_connecting.specs.Adding.{AddsFor, TouchesSeats, SomeTouches}
use Rattle.hx_connecting.specs.Around.{HasAround, resting}
use Rattle.hx_connecting.specs.Sessions.{SessionNow, Holding, Resting, Exchanging as OnConn, is_first}
use Rattle.hx_connecting.specs.Touched.{AllStand}
use Rattle.hx_connecting.specs.Touches.{Touch}
use Rattle.hx_connecting.specs.Outcomes.{Outcome, Leaving}
use Rattle.hx_connecting.specs.Ways.{GivesOwn, StaysWith, StaysOn, ToldStays, ExchangeStays, WayFor, SomeWay}
use Rattle.hx_connecting.proofs.AddingLemmas.{nothing, joined, adds_no_touch, adds_then, adds_are, adds_wanted}
use Rattle.hx_connecting.proofs.AddedCalls.{touches_none, touches_stand, chooses_touches}
use Rattle.hx_connecting.proofs.NetLemmas.{net_is, net_same, for_faults}
use Rattle.hx_connecting.proofs.WayCalls.{way_joined, held_then}
use Rattle.hx_connecting.proofs.WayStays.{stays_self, stays_behind, on_self, on_then, on_stays, way_behind}
use Rattle.hx_session.specs.declared.stage.Came.{Came}
use Rattle.hx_session.specs.declared.stage.Came.TheVariants.{On, Moved, Ends}
use Rattle.hx_session.specs.declared.stage.Ending.{Ending}
use Rattle.hx_session.specs.declared.stage.Stage.{Stage}
use Rattle.hx_session.specs.declared.step.Waiting.{Waiting}
use Rattle.hx_session.specs.Beginning.{ChoosesServer, ChoosesIn}
use Rattle.hx_session.specs.Desks.{DeskNow}
use Rattle.hx_session.specs.Marking.{AddsMarks}
use Rattle.hx_session.specs.Exchanged.{ExchangeNow}
use Rattle.hx_session.specs.Parting.{first_of, came_conn, came_served, MayTouch, CountsOn, CameWay, CameKeeps, Parted, PartTouches, StageTouches, LetsGo, outcome_of}
use Rattle.hx_session.specs.Seen.{conn_seen, session_seen}
use Rattle.hx_session.specs.Stages.{StageNow, Reading, Choosing, Exchanging, Answering, Left, stage_now}

pub may_none : {X : Type 0} (c : Came X) → MayTouch c None
may_none (On stage w) = refl
may_none (Moved stage w served) = tt
may_none (Ends e) = inl refl

pub counts_same : {X : Type 0} (d d' : DeskNow) (c : Came X) → d'.number ≡ d.number → CountsOn d d' c
counts_same d d' (On stage w) e = e
counts_same d d' (Moved stage w served) e = tt
counts_same d d' (Ends x) e = tt

counts_then : {X : Type 0} (d0 d d' : DeskNow) (c : Came X) → d.number ≡ d0.number → CountsOn d d' c → CountsOn d0 d' c
counts_then d0 d d' (On stage w) e k = k ∙ e
counts_then d0 d d' (Moved stage w served) e k = tt
counts_then d0 d d' (Ends x) e k = tt

-- the first request has the number 1
pub first_is : (d : DeskNow) (b : Bool) → 1 ≤ d.number → b ≡ (d.number == 1) → b ≡ first_of d
first_is d b one is = is ∙ by_test (eqb d.number 1) refl
  where
    by_test : (t : Bool) → eqb d.number 1 ≡ t → t ≡ eqb (d.number - 1) 0
    by_test true e = sym (eq-eqb (d.number - 1) 0 (omega (arith, eqb-true d.number 1 e)))
    by_test false e = sym (ne_eqb (d.number - 1) 0 (λ z. eqb-false d.number 1 e (omega (arith, z, one))))

first_same : (d d' : DeskNow) → d'.number ≡ d.number → first_of d' ≡ first_of d
first_same d d' e = ap (λ (n : ℕ). (n - 1) == 0) e

-- the entries of calls and the way of the session's connection, under the names of another desk
abbrev PartWay : {X : Type 0} → Came X → ThreadNo → SessionNo → Bool → Option Holding → List History → List History → NetState → NetState → Option Touch → Type 0
PartWay came t n first c olds news net net' x = (k : TouchesSeats t n first x olds news) × CameWay came t n c news k.added net net' x

at_desk : {X : Type 0} (came : Came X) (t u : ThreadNo) (n m : SessionNo) (f g : Bool) (c : Option Holding) (olds news : List History) (net net' : NetState) (x : Option Touch) → t ≡ u → n ≡ m → f ≡ g
    → PartWay came t n f c olds news net net' x → PartWay came u m g c olds news net net' x
at_desk came t u n m f g c olds news net net' x a b e k =
    subst (λ (v : ThreadNo). PartWay came v m g c olds news net net' x) a
    (subst (λ (v : SessionNo). PartWay came t v g c olds news net net' x) b (subst (λ (v : Bool). PartWay came t n v c olds news net net' x) e k))

-- a connection that is as it was
same_way : {X : Type 0} (came : Came X) (t : ThreadNo) (n : SessionNo) (c : Option Holding) (news : List History) (added : List (List Note)) (net net' : NetState) → came_conn came ≡ c → GivesOwn (came_served came) c → net' ≡ net
    → CameWay came t n c news added net net' None
same_way (On stage w) t n c news added net net' is own e = (subst (λ (o : Option Holding). StaysOn c o) (sym is) (on_self c), e)
same_way (Moved stage w served) t n c news added net net' is own e = (subst (λ (o : Option Holding). StaysWith c o served) (sym is) (stays_self c served own), net_is net net' e)
same_way (Ends x) t n c news added net net' is own e = (subst (λ (o : Option Holding). StaysWith c o x.served) (sym is) (stays_self c x.served own), net_is net net' e)

-- an exchange that went on
pub went_way : {X : Type 0} (came : Came X) (t : ThreadNo) (n : SessionNo) (a b : BusyNow) (news : List History) (added : List (List Note)) (net : NetState) → came_conn came ≡ Some (OnConn b) → came_served came ≡ None
    → ExchangeStays a b → ToldStays a b → CameWay came t n (Some (OnConn a)) news added net net None
went_way (On stage w) t n a b news added net is none e told = ((b, is, e, told), refl)
went_way (Moved stage w served) t n a b news added net is none e told =
    (subst (λ (o : Option Served). StaysWith (Some (OnConn a)) (conn_seen (stage_now stage)) o) (sym none) (on_stays (Some (OnConn a)) (conn_seen (stage_now stage)) (b, is, e, told)), net_same net)
went_way (Ends x) t n a b news added net is none e told =
    (subst (λ (o : Option Served). StaysWith (Some (OnConn a)) (resting x.held) o) (sym none) (on_stays (Some (OnConn a)) (resting x.held) (b, is, e, told)), net_same net)

-- a part that touched nothing
pub parted_none : {X : Type 0} (d d' : DeskNow) (s : StageNow) (seats seats' : List History) (net net' : NetState) (c : Came X) → AllStand seats → seats' ≡ seats → CountsOn d d' c
    → CameWay c d.worker d.session (conn_seen s) seats' (nothing seats) net net' None → Parted d s seats net d' c seats' net'
parted_none d d' s seats seats' net net' c all same k way = record {
  touch = None;
  may = may_none c;
  counts = k;
  at = record {
    added = nothing seats;
    adds = subst (λ (hs : List History). AddsFor d.worker d.session (first_of d) None seats hs (nothing seats)) (sym same) (adds_no_touch d.worker d.session (first_of d) seats all);
  };
  way = way;
}

pub parted : {X : Type 0} (d d' : DeskNow) (s : StageNow) (seats seats' : List History) (net net' : NetState) (c : Came X) → AllStand seats → PartTouches d s seats net d' c seats' net' → Parted d s seats net d' c seats' net'
parted d d' s seats seats' net net' c all p = ⊎_elim
    (λ k. parted_none d d' s seats seats' net net' c all k.0 k.3 (same_way c d.worker d.session (conn_seen s) seats' (nothing seats) net net' k.2 k.4 k.1))
    (λ k. k)
    p

-- a part from a desk that made no record since
pub parted_from : {X : Type 0} (d d1 d' : DeskNow) (s : StageNow) (seats seats' : List History) (net net' : NetState) (c : Came X) → d1.worker ≡ d.worker → d1.session ≡ d.session → d1.number ≡ d.number
    → Parted d1 s seats net d' c seats' net' → Parted d s seats net d' c seats' net'
parted_from d d1 d' s seats seats' net net' c t n e p =
    let k = at_desk c d1.worker d.worker d1.session d.session (first_of d1) (first_of d) (conn_seen s) seats seats' net net' p.touch t n (first_same d d1 e) (p.at, p.way) in
    record { touch = p.touch; may = p.may; counts = counts_then d d1 d' c e p.counts; at = k.0; way = k.1 }

pub part_from : {X : Type 0} (d d1 d' : DeskNow) (s : StageNow) (seats seats' : List History) (net net' : NetState) (c : Came X) → d1.worker ≡ d.worker → d1.session ≡ d.session → d1.number ≡ d.number
    → PartTouches d1 s seats net d' c seats' net' → PartTouches d s seats net d' c seats' net'
part_from d d1 d' s seats seats' net net' c t n e p = ⊎_elim
    (λ k. inl (k.0, k.1, k.2, counts_then d d1 d' c e k.3, k.4))
    (λ k. inr (parted_from d d1 d' s seats seats' net net' c t n e k))
    p

-- a part behind an exchange that went on
pub for_behind : (t : ThreadNo) (n : SessionNo) (a b : BusyNow) (o : Option Holding) (z : Outcome) (news : List History) (added : List (List Note)) (net net' : NetState) (x : Option Touch) (served : Option Served) → ExchangeStays a b
    → IfSome served (λ r. ToldStays a b) → WayFor t n (Some (OnConn b)) o z news added net net' x served → WayFor t n (Some (OnConn a)) o z news added net net' x served
for_behind t n a b o z news added net net' None served e told way = (stays_behind a b o served e told way.0, way.1)
for_behind t n a b o z news added net net' (Some x) served e told way = record {
  history = way.history;
  es = way.es;
  seat = way.seat;
  entries = way.entries;
  faults = way.faults;
  way = way_behind t n a b o z way.history way.es net net' x served e told way.way;
}

came_behind : {X : Type 0} (came : Came X) (t : ThreadNo) (n : SessionNo) (a b : BusyNow) (news : List History) (added : List (List Note)) (net net' : NetState) (x : Option Touch) → ExchangeStays a b → CameKeeps came a b
    → CameWay came t n (Some (OnConn b)) news added net net' x → CameWay came t n (Some (OnConn a)) news added net net' x
came_behind (On stage w) t n a b news added net net' x e told way = (on_then (Some (OnConn a)) (Some (OnConn b)) (conn_seen (stage_now stage)) (b, refl, e, told) way.0, way.1)
came_behind (Moved stage w served) t n a b news added net net' x e told way = for_behind t n a b (conn_seen (stage_now stage)) (outcome_of (stage_now stage)) news added net net' x served e told way
came_behind (Ends y) t n a b news added net net' x e told way = for_behind t n a b (resting y.held) Leaving news added net net' x y.served e told way

pub parted_behind : {X : Type 0} (d d1 d' : DeskNow) (e f : ExchangeNow) (seats seats' : List History) (net net' : NetState) (c : Came X) → d1.worker ≡ d.worker → d1.session ≡ d.session → d1.number ≡ d.number
    → ExchangeStays e.busy f.busy → CameKeeps c e.busy f.busy → Parted d1 (Exchanging f) seats net d' c seats' net' → Parted d (Exchanging e) seats net d' c seats' net'
parted_behind d d1 d' e f seats seats' net net' c t n number same told p =
    let k = parted_from d d1 d' (Exchanging f) seats seats' net net' c t n number p in
    record { touch = k.touch; may = k.may; counts = k.counts; at = k.at; way = came_behind c d.worker d.session e.busy f.busy seats' k.at.added net net' k.touch same told k.way }

-- a part behind those so far
came_joined : {X : Type 0} (came : Came X) (t : ThreadNo) (n : SessionNo) (first : Bool) (c k : Option Holding) (xs bs cs : List History) (a b : List (List Note)) (old mid new : NetState) (x : Option Touch)
    → AddsFor t n first None xs bs a → AddsFor t n first x bs cs b → StaysOn c k → mid ≡ old → CameWay came t n k cs b mid new x → CameWay came t n c cs (joined a b) old new x
came_joined (On stage w) t n first c k xs bs cs a b old mid new x adds more on same way = (on_then c k (conn_seen (stage_now stage)) on way.0, way.1 ∙ same)
came_joined (Moved stage w served) t n first c k xs bs cs a b old mid new x adds more on same way =
    way_joined t n first c k (conn_seen (stage_now stage)) (outcome_of (stage_now stage)) xs bs cs a b old mid new x served adds more on same way
came_joined (Ends y) t n first c k xs bs cs a b old mid new x adds more on same way = way_joined t n first c k (resting y.held) Leaving xs bs cs a b old mid new x y.served adds more on same way

pub parts_then : {X : Type 0} (d0 d d' : DeskNow) (s0 : StageNow) (stage : Stage X) (w : Waiting) (seats0 seats seats' : List History) (net0 net net' : NetState) (c : Came X) → d.worker ≡ d0.worker → d.session ≡ d0.session
    → Parted d0 s0 seats0 net0 d (On stage w) seats net → PartTouches d (stage_now stage) seats net d' c seats' net' → Parted d0 s0 seats0 net0 d' c seats' net'
parts_then d0 d d' s0 stage w seats0 seats seats' net0 net net' c t n p q =
    let all = touches_stand d0.worker d0.session (first_of d0) p.touch seats0 seats p.at in
    let k = parted_from d0 d d' (stage_now stage) seats seats' net net' c t n p.counts (parted d d' (stage_now stage) seats seats' net net' c all q) in
    let before : AddsFor d0.worker d0.session (first_of d0) None seats0 seats p.at.added = subst (λ (o : Option Touch). AddsFor d0.worker d0.session (first_of d0) o seats0 seats p.at.added) p.may p.at.adds in
    record {
      touch = k.touch;
      may = k.may;
      counts = k.counts;
      at = record { added = joined p.at.added k.at.added; adds = adds_then d0.worker d0.session (first_of d0) k.touch seats0 seats seats' p.at.added k.at.added before k.at.adds };
      way = came_joined c d0.worker d0.session (first_of d0) (conn_seen s0) (conn_seen (stage_now stage)) seats0 seats seats' p.at.added k.at.added net0 net net' k.touch before k.at.adds p.way.0 p.way.1 k.way;
    }

-- what the session still had is closed, and its client's link is detached
lets_go : (t : ThreadNo) (n : SessionNo) (first : Bool) (c : Option Holding) (x : Option Touch) (held : Option RestedNow) (seats0 seats seats' : List History) (net0 net net' : NetState) (client client' : LinkState)
    (served : Option Served) (k : TouchesSeats t n first x seats0 seats) → (x ≡ None) ⊎ (held ≡ None) → WayFor t n c (resting held) Leaving seats k.added net0 net x served → HasAround t n (resting held) seats
    → LetsGo n held seats seats' net net' client client' → SomeWay t n first c None Leaving seats0 seats' net0 net' served
lets_go t n first c x None seats0 seats seats' net0 net net' client client' served k may way a go =
    let faults : OnlyFaults net net' = subst (λ (s : NetState). OnlyFaults s net') go.closes.1 go.detaches.0 in
    record {
      touch = x;
      at = record { added = k.added; adds = subst (λ (hs : List History). AddsFor t n first x seats0 hs k.added) (sym go.closes.0) k.adds };
      way = subst (λ (hs : List History). WayFor t n c None Leaving hs k.added net0 net' x served) (sym go.closes.0) (for_faults t n c None Leaving seats k.added net0 net net' x served faults way);
    }
lets_go t n first c x (Some r) seats0 seats seats' net0 net net' client client' served k may way a go = ⊎_elim
    (λ none.
    let stays = subst (λ (o : Option Touch). WayFor t n c (Some (Resting r)) Leaving seats k.added net0 net o served) none way in
    let adds : AddsFor t n first None seats0 seats k.added = subst (λ (o : Option Touch). AddsFor t n first o seats0 seats k.added) none k.adds in
    held_then t n first c r seats0 seats seats' k.added net0 net go.between net' served a adds stays.0 stays.1 go.meaning go.closes go.detaches.0)
    (λ (none : Some r ≡ None). cc)
    may

-- the step's end, where the session leaves
pub leaves_then : {X : Type 0} (d0 d : DeskNow) (s0 : StageNow) (e : Ending X) (seats0 seats seats' : List History) (net0 net net' : NetState) (client client' : LinkState) → d.worker ≡ d0.worker → d.session ≡ d0.session
    → HasAround d.worker d.session (resting e.held) seats → LetsGo d.session e.held seats seats' net net' client client' → Parted d0 s0 seats0 net0 d (Ends e) seats net
    → SomeWay d0.worker d0.session (first_of d0) (conn_seen s0) None Leaving seats0 seats' net0 net' e.served
leaves_then d0 d s0 e seats0 seats seats' net0 net net' client client' t n a k p =
    lets_go d0.worker d0.session (first_of d0) (conn_seen s0) p.touch e.held seats0 seats seats' net0 net net' client client' e.served p.at p.may p.way
    (subst (λ (v : ThreadNo). HasAround v d0.session (resting e.held) seats) t (subst (λ (v : SessionNo). HasAround d.worker v (resting e.held) seats) n a))
    (subst (λ (v : SessionNo). LetsGo v e.held seats seats' net net' client client') n k)

-- and where it goes on
pub moves_then : {X : Type 0} (d0 d : DeskNow) (s0 : StageNow) (stage : Stage X) (w : Waiting) (served : Option Served) (seats0 seats : List History) (net0 net : NetState) → Parted d0 s0 seats0 net0 d (Moved stage w served) seats net
    → SomeWay d0.worker d0.session (first_of d0) (conn_seen s0) (conn_seen (stage_now stage)) (outcome_of (stage_now stage)) seats0 seats net0 net served
moves_then d0 d s0 stage w served seats0 seats net0 net p = record { touch = p.touch; at = p.at; way = p.way }

pub stands_then : {X : Type 0} (d0 d : DeskNow) (s0 : StageNow) (stage : Stage X) (w : Waiting) (seats0 seats : List History) (net0 net : NetState) → Parted d0 s0 seats0 net0 d (On stage w) seats net
    → SomeWay d0.worker d0.session (first_of d0) (conn_seen s0) (conn_seen (stage_now stage)) (outcome_of (stage_now stage)) seats0 seats net0 net None
stands_then d0 d s0 stage w seats0 seats net0 net p = record {
  touch = None;
  at = subst (λ (o : Option Touch). TouchesSeats d0.worker d0.session (first_of d0) o seats0 seats) p.may p.at;
  way = (on_stays (conn_seen s0) (conn_seen (stage_now stage)) p.way.0, net_is net0 net p.way.1);
}

-- a part that comes to another stage, and ends the step
pub stage_part : {X : Type 0} (d d' : DeskNow) (s : StageNow) (stage : Stage X) (w : Waiting) (seats seats' : List History) (net net' : NetState)
    → StageTouches d s seats net d' (stage_now stage) seats' net' → PartTouches d s seats net d' (Moved stage w None) seats' net'
stage_part d d' s stage w seats seats' net net' k = ⊎_elim
    (λ a. inl (a.0, a.1, a.2, tt, tt))
    (λ a. inr (record { touch = a.touch; may = tt; counts = tt; at = a.at; way = a.way }))
    k

-- the entries of a step, or of a stop
pub adds_marks : (front : ℕ) (d : DeskNow) (s : StageNow) (seats seats' : List History) → SomeTouches d.worker d.session (first_of d) seats seats' → AddsMarks (session_seen front d s) seats seats'
adds_marks front d s seats seats' k = record {
  touch = k.0;
  added = k.1.added;
  adds = adds_are d.worker d.session (first_of d) k.0 0 seats seats' k.1.added k.1.adds;
  wanted = adds_wanted d.session (first_of d) _ 0 seats seats' k.1.added k.1.adds;
}

-- a session that does nothing more
pub no_marks : (s : SessionNow) (seats : List History) → AllStand seats → AddsMarks s seats seats
no_marks s seats all = record {
  touch = None;
  added = nothing seats;
  adds = adds_are s.worker s.number (is_first s) None 0 seats seats (nothing seats) (adds_no_touch s.worker s.number (is_first s) seats all);
  wanted = adds_wanted s.number (is_first s) _ 0 seats seats (nothing seats) (adds_no_touch s.worker s.number (is_first s) seats all);
}

server_touches : (t : ThreadNo) (n : SessionNo) (first : Bool) (servers : List Server) (turn turn' : ℕ) (olds news : List History) (was server : Option ServerNo) → AllStand olds
    → ChoosesServer servers turn turn' olds news was server → TouchesSeats t n first None olds news
server_touches t n first servers turn turn' olds news None server all k = chooses_touches t n first servers turn turn' olds news server all k
server_touches t n first servers turn turn' olds news (Some v) server all k = touches_none t n first olds news all k.1

-- the part that chooses a server
in_touches : (t : ThreadNo) (n : SessionNo) (first : Bool) (servers : List Server) (turn turn' : ℕ) (olds news : List History) (s s' : StageNow) → AllStand olds → ChoosesIn servers turn turn' olds news s s'
    → TouchesSeats t n first None olds news
in_touches t n first servers turn turn' olds news (Choosing c) s' all k = server_touches t n first servers turn turn' olds news c.server k.0.server all k.2.server
in_touches t n first servers turn turn' olds news (Reading held) s' all k = touches_none t n first olds news all k.1
in_touches t n first servers turn turn' olds news (Exchanging e) s' all k = touches_none t n first olds news all k.1
in_touches t n first servers turn turn' olds news (Answering a) s' all k = touches_none t n first olds news all k.1
in_touches t n first servers turn turn' olds news Left s' all k = touches_none t n first olds news all k.1

-- the session's connection stays
in_conn : (servers : List Server) (turn turn' : ℕ) (olds news : List History) (s s' : StageNow) → ChoosesIn servers turn turn' olds news s s' → conn_seen s' ≡ conn_seen s
in_conn servers turn turn' olds news (Choosing c) s' k = ap conn_seen k.1 ∙ ap resting k.2.held
in_conn servers turn turn' olds news (Reading held) s' k = ap conn_seen k.0
in_conn servers turn turn' olds news (Exchanging e) s' k = ap conn_seen k.0
in_conn servers turn turn' olds news (Answering a) s' k = ap conn_seen k.0
in_conn servers turn turn' olds news Left s' k = ap conn_seen k.0

pub turn_then : {X : Type 0} (d0 d : DeskNow) (s0 : StageNow) (stage stage' : Stage X) (w : Waiting) (servers : List Server) (turn turn' : ℕ) (seats0 olds news : List History) (net0 net : NetState) → d.worker ≡ d0.worker → d.session ≡ d0.session
    → Parted d0 s0 seats0 net0 d (On stage w) olds net → ChoosesIn servers turn turn' olds news (stage_now stage) (stage_now stage') → Parted d0 s0 seats0 net0 d (On stage' w) news net
turn_then d0 d s0 stage stage' w servers turn turn' seats0 olds news net0 net t n p k =
    let all = touches_stand d0.worker d0.session (first_of d0) p.touch seats0 olds p.at in
    parts_then d0 d d s0 stage w seats0 olds news net0 net net (On stage' w) t n p (inr (record {
      touch = None;
      may = refl;
      counts = refl;
      at = in_touches d.worker d.session (first_of d) servers turn turn' olds news (stage_now stage) (stage_now stage') all k;
      way = (
        subst (λ (o : Option Holding). StaysOn (conn_seen (stage_now stage)) o) (sym (in_conn servers turn turn' olds news (stage_now stage) (stage_now stage') k)) (on_self (conn_seen (stage_now stage))),
        refl,
      );
    }))
