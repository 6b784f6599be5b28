use Rattle.hx_connecting.specs.Sessions.{SessionNow}
-- Why a step decided what it decided.
use Rattle.std.proofs.Common.{◌≡◌, ◌⊎◌, ◌≤◌, ◌<◌, ◌-◌, ℕ, Bool, true, false, List, [], ◌∷◌, length, drop, refl, sym, ap, subst, ◌∙◌, inl, inr, arith, Option, Some, None, ⊎_elim}
use Rattle.std.specs.Prelude.{IfSome, IsSome, ◌||◌}
use Rattle.hx_base.specs.declared.numbers.ConnId.{ConnId}
use Rattle.hx_base.specs.declared.numbers.ServerNo.{ServerNo}
use Rattle.hx_base.specs.declared.what.LinkTold.{LinkTold}
use Rattle.hx_base.specs.Counts.{Rose}
use Rattle.hx_base.specs.declared.numbers.Millis.{Millis}
use Rattle.hx_conn.specs.Conns.{BusyNow, IsBusy, RestedNow}
use Rattle.hx_conn.specs.WhatTold.{what_of_link}
use Rattle.hx_base.specs.declared.numbers.SessionNo.{SessionNo}
use Rattle.hx_connecting.specs.Around.{resting}
use Rattle.hx_connecting.specs.Closing.{ClosesAny, ClosesAt}
use Rattle.hx_session.specs.Parting.{LetsGo}
use Rattle.hx_session.specs.First.{FindsLate}
use Rattle.hx_session.specs.Fits.{limits_with}
use Rattle.hx_session.specs.Telling.{DoneTells, IsOfStage}
use Rattle.hx_session.specs.declared.deadline.Late.{Late}
use Rattle.hx_session.specs.declared.deadline.Late.TheVariants as at
use Rattle.hx_config.specs.declared.parts.Back.{Back}
use Rattle.hx_config.specs.declared.parts.Front.{Front}
use Rattle.hx_record.specs.declared.served.Left.{Left as Leave}
use Rattle.hx_record.specs.declared.served.LeftCause.{LeftCause}
use Rattle.hx_record.specs.declared.served.LeftCause.TheVariants as cause
use Rattle.hx_connecting.specs.Links.{GainsAll, GrowsTold, IsSameLink}
use Rattle.hx_connecting.specs.Sessions as seen
use Rattle.hx_connecting.proofs.NetLemmas.{net_faults, net_buries, ends_after}
use Rattle.hx_connecting.proofs.WayLemmas.{same_self}
use Rattle.hx_link.specs.Nets.{NetState, TellsDial}
use Rattle.hx_link.specs.Told.{LinkState}
use Rattle.hx_message.specs.declared.MethodKind.{MethodKind}
use Rattle.hx_message.specs.Partial.{HasWholeRequest}
use Rattle.hx_pool.specs.SeatView.{History}
use Rattle.hx_record.specs.declared.served.Carried.{Carried}
use Rattle.hx_record.specs.declared.served.CutCause.{CutCause}
use Rattle.hx_record.specs.declared.served.CutCause.TheVariants as cut
use Rattle.hx_record.specs.declared.served.Kind.{Kind}
use Rattle.hx_record.specs.declared.served.Kind.TheVariants as kind
use Rattle.hx_record.specs.declared.served.Served.{Served}
use Rattle.hx_session.specs.declared.stage.Came.{Came}
use Rattle.hx_session.specs.declared.stage.Ending.{Ending}
use Rattle.hx_session.specs.declared.stage.Stage.{Stage}
use Rattle.hx_session.specs.Owning.{CameOwn}
use Rattle.hx_session.specs.declared.stage.Came.TheVariants.{On, Moved, Ends}
use Rattle.hx_session.specs.Bad.{HasBadChunks, IsBadRequest, IsBrokenAnswer}
use Rattle.hx_session.specs.Causes.{AnswerBroke, Buries, MayBeSilent, CutsFor, Decides, HasCome, Limits, ClientStops, IsNoAnswer, NotSilent, ServerEnded, ServerFailed, Unserved, all_drain, bad_request, client_late, server_late, connect_late, unserved, broken as broke, lost, early, ended, fault, late, client, silent}
use Rattle.hx_session.specs.Causes as why
use Rattle.hx_session.specs.Decided.{Lack, Terms, HasLack, limits_in, terms_of, ClientComes, CutsAs, DoneDecides, GivesOwnOnly, HasPassed, OwnIs, IsQuiet, PassesOn, ServerLate, Ungiven, status_for, BusyStays, CameDecides, CutsRecord, CutsWhy, EndsAs, EndsByServer, LosesServer, IsHeard, IsSilent, IsSoFar, Given, MovesNoByte, OwnAnswers, loose}
use Rattle.hx_session.specs.Desks.{DeskNow}
use Rattle.hx_session.specs.Exchanged.{ExchangeNow}
use Rattle.hx_session.specs.Moves.{with_client, GivesClient, ReadsClient}
use Rattle.hx_session.specs.Carried.{IsCarried}
use Rattle.hx_session.specs.Deciding.{CutsAllFor, OwnsAs}
use Rattle.hx_session.specs.Beginning.{ChoosesIn}
use Rattle.hx_config.specs.declared.parts.Server.{Server}
use Rattle.hx_session.specs.declared.moves.Move.{Move}
use Rattle.hx_session.specs.declared.moves.Move.TheVariants.{Idle, Bytes, Waits, Ended, Failed}
use Rattle.hx_session.specs.Still.{HasMoved, with_link}
use Rattle.hx_session.specs.Finishing.{SpellsNone}
use Rattle.hx_session.specs.Leaving.{NoneWhole}
use Rattle.hx_link.specs.Links.{LinkReads, LinkWrites}
use Rattle.hx_link.specs.declared.answers.Got.TheVariants as got
use Rattle.hx_link.specs.declared.answers.Put.TheVariants as put
use Rattle.hx_conn.specs.Steps.{after_call}
use Rattle.hx_session.specs.Waiting.{FailsNow, LeavesNothing, NothingLeft, ReadsNone, SendsNone, StaysOrMoves}
use Rattle.hx_session.proofs.PausedLemmas.{moved_where, where_then}
use Rattle.hx_session.specs.Seen.{conn_seen, own_seen, session_seen}
use Rattle.hx_session.specs.Stages.{StageNow, AnsweringNow, ChoosingNow, Reading, Choosing, Exchanging, Answering, Left, IsBetween, own_stage, stage_now}
use Rattle.hx_session_parts.specs.Asks.{RefusesAsk, status_of}
use Rattle.hx_session_parts.specs.declared.fault.AskFault.{AskFault}
use Rattle.hx_session.proofs.IdleLemmas.{since_bytes}

-- a link that is closed is buried as it stood
pub closes_buries : (b : BusyNow) (n : SessionNo) (olds news : List History) (net net' : NetState) → IsBusy b → ClosesAt olds news b.server.0 n b.id net net' b.link → Buries b net net' (loose b.link)
closes_buries b n olds news net net' meaning k =
    let ends = ends_after net k.between net' k.detached (net_faults net k.between k.detaches.0) (net_buries k.between net' k.detached k.closed.buries) in
    record {
      dial = meaning.dial;
      same = same_self b.link;
      taken = refl;
      sent = refl;
      ended = refl;
      buries = subst (λ (l : LinkState). GainsAll (l ∷ []) net.buried net'.buried) k.detaches.1 ends.buries;
    }

-- at the connection of the exchange in which a step began
taken_stays : (a b : BusyNow) → BusyStays a b → b.link.taken ≡ a.link.taken
taken_stays a b k = ap (λ (l : LinkState). l.taken) k.link.link

from_stays : (a b : BusyNow) → BusyStays a b → b.exchange.taken_from ≡ a.exchange.taken_from
from_stays a b k = ap (λ (x : BusyNow). x.exchange.taken_from) k.busy

method_stays : (a b : BusyNow) → BusyStays a b → b.exchange.method ≡ a.exchange.method
method_stays a b k = ap (λ (x : BusyNow). x.exchange.method) k.busy

-- what holds of the bytes of its answer
answer_stays : (P : MethodKind → List ℕ → Type 0) (a b : BusyNow) → BusyStays a b → IfSome b.link.taken (λ bytes. P b.exchange.method (drop b.exchange.taken_from bytes)) → IfSome a.link.taken (λ bytes. P a.exchange.method (drop a.exchange.taken_from bytes))
answer_stays P a b k h =
    subst (λ (m : MethodKind). IfSome a.link.taken (λ bytes. P m (drop a.exchange.taken_from bytes))) (method_stays a b k)
    (subst (λ (n : ℕ). IfSome a.link.taken (λ bytes. P b.exchange.method (drop n bytes))) (from_stays a b k)
    (subst (λ (o : Option (List ℕ)). IfSome o (λ bytes. P b.exchange.method (drop b.exchange.taken_from bytes))) (taken_stays a b k) h))

what_stays : (a b : LinkState) (l : LinkState) → MovesNoByte a b → IsSameLink (what_of_link b) (what_of_link l) → IsSameLink (what_of_link a) (what_of_link l)
what_stays a b l k same =
    let told : (what_of_link b).told ≡ (what_of_link a).told = ap (λ (x : LinkState). (what_of_link x).told) k.link in
    record {
      tag = same.tag ∙ ap (λ (x : LinkState). x.tag) k.link;
      plan = same.plan ∙ ap (λ (x : LinkState). x.plan) k.link;
      faults = omega (arith, k.faults, same.faults);
      told = subst (λ (o : Option LinkTold). IfSome o (λ c. (d : LinkTold) × ((what_of_link l).told ≡ Some d) × GrowsTold c d)) told same.told;
      told_before = subst (λ (o : Option LinkTold). IsSome (what_of_link l).told → IsSome o) told same.told_before;
    }

pub buries_from : (a b : BusyNow) (net0 net net' : NetState) (l : LinkState) → BusyStays a b → net ≡ net0 → Buries b net net' l → Buries a net0 net' l
buries_from a b net0 net net' l k same x = record {
  dial = subst (λ (id : ConnId). TellsDial a.server id l) (ap (λ (y : BusyNow). y.id) k.busy) (subst (λ (s : ServerNo). TellsDial s b.id l) (ap (λ (y : BusyNow). y.server) k.busy) x.dial);
  same = what_stays a.link b.link l k.link x.same;
  taken = x.taken ∙ ap (λ (y : LinkState). y.taken) k.link.link;
  sent = x.sent ∙ ap (λ (y : LinkState). y.sent) k.link.link;
  ended = x.ended ∙ ap (λ (y : LinkState). y.told_end) k.link.link;
  buries = subst (λ (n : NetState). GainsAll (l ∷ []) n.buried net'.buried) same x.buries;
}

-- the exchange of a stage
pub exchange_of : (s : StageNow) (b : BusyNow) → conn_seen s ≡ Some (seen.Exchanging b) → (e : ExchangeNow) × (s ≡ Exchanging e) × (e.busy ≡ b)
exchange_of (Reading None) b e = cc
exchange_of (Reading (Some r)) b e = cc
exchange_of (Choosing c) b e = by_held c.held e
  where
    by_held : (h : Option RestedNow) → resting h ≡ Some (seen.Exchanging b) → (x : ExchangeNow) × (Choosing c ≡ Exchanging x) × (x.busy ≡ b)
    by_held None z = cc
    by_held (Some r) z = cc
exchange_of (Answering a) b e = by_held a.held e
  where
    by_held : (h : Option RestedNow) → resting h ≡ Some (seen.Exchanging b) → (x : ExchangeNow) × (Answering a ≡ Exchanging x) × (x.busy ≡ b)
    by_held None z = cc
    by_held (Some r) z = cc
exchange_of Left b e = cc
exchange_of (Exchanging x) b e = (x, refl, same x.busy b e)
  where
    same : (p q : BusyNow) → Some (seen.Exchanging p) ≡ Some (seen.Exchanging q) → p ≡ q
    same p q z = cc

-- an own answer, seen from where the step began
uses_stay : (a b : BusyNow) → BusyStays a b → b.uses ≡ a.uses
uses_stay a b k = ap (λ (x : BusyNow). x.uses) k.busy

heard_from : (d0 d : DeskNow) (s0 s : StageNow) (front : ℕ) (a b : BusyNow) → d.number ≡ d0.number → BusyStays a b → NotSilent (session_seen front d s) b → NotSilent (session_seen front d0 s0) a
heard_from d0 d s0 s front a b number k heard = ⊎_elim
    (λ first. inl (ap (λ (n : ℕ). n - 1) (sym number) ∙ first))
    (λ x. ⊎_elim
    (λ unused. inr (inl (sym (uses_stay a b k) ∙ unused)))
    (λ some. inr (inr (omega (arith, some, from_stays a b k, ap (λ (l : LinkState). l.taken_count) k.link.link))))
    x)
    heard

pub answers_from : (limits : Terms) (now : ℕ) (d0 d : DeskNow) (s0 s : StageNow) (net0 net net' : NetState) (status : ℕ) → IsSoFar d0 s0 net0 d s net → OwnAnswers limits now d s net net' status → OwnAnswers limits now d0 s0 net0 net' status
answers_from limits now d0 d s0 s net0 net net' status k own = λ front. by_cause front status (own front)
  where
    since_is : d.since ≡ d0.since
    since_is = ap (λ (x : DeskNow). x.since) k.desk

    asked : (P : List ℕ → Type 0) → IfSome d.client.taken (λ bytes. P (drop d.ask_from bytes)) → IfSome d0.client.taken (λ bytes. P (drop d0.ask_from bytes))
    asked P h =
        subst (λ (n : ℕ). IfSome d0.client.taken (λ bytes. P (drop n bytes))) (ap (λ (x : DeskNow). x.ask_from) k.desk)
        (subst (λ (o : Option (List ℕ)). IfSome o (λ bytes. P (drop d.ask_from bytes))) (ap (λ (l : LinkState). l.taken) k.client.link) h)

    comes : (o : Option Millis) → HasCome o d.since.0 now → HasCome o d0.since.0 now
    comes o h = subst (λ (m : Millis). HasCome o m.0 now) since_is h

    by_cause : (front n : ℕ) → Decides (limits_in limits) (session_seen front d s) net net' now (HasLack limits.lack) n → Decides (limits_in limits) (session_seen front d0 s0) net0 net' now (HasLack limits.lack) n
    by_cause front n (bad_request m h) = bad_request m (asked (IsBadRequest m) h)
    by_cause front n (client_late h) = client_late (comes limits.client h)
    by_cause front n (server_late h) = server_late (comes limits.server h)
    by_cause front n (connect_late h) = connect_late (comes limits.connect h)
    by_cause front n (unserved u h) = unserved u h
    by_cause front n (broke b l was buries h) =
        let e = exchange_of s b was in
        let x = k.exchange e.0 e.1 in
        let stays : BusyStays x.0.busy b = subst (λ (q : BusyNow). BusyStays x.0.busy q) e.2 x.2 in
        broke x.0.busy l (ap conn_seen x.1) (buries_from x.0.busy b net0 net net' l stays k.net_same buries) (answer_stays IsBrokenAnswer x.0.busy b stays h)
    by_cause front n (lost b l was buries h heard) =
        let e = exchange_of s b was in
        let x = k.exchange e.0 e.1 in
        let stays : BusyStays x.0.busy b = subst (λ (q : BusyNow). BusyStays x.0.busy q) e.2 x.2 in
        lost x.0.busy l (ap conn_seen x.1) (buries_from x.0.busy b net0 net net' l stays k.net_same buries)
        (⊎_elim (λ z. inl (sym (ap (λ (y : LinkState). y.told_end) stays.link.link) ∙ z.0, answer_stays IsNoAnswer x.0.busy b stays z.1)) (λ z. inr z) h)
        (heard_from d0 d s0 s front x.0.busy b (ap (λ (y : DeskNow). y.number) k.desk) stays heard)

-- the same of a cut
rose_from : (a b c : ℕ) → a ≤ b → Rose b c → Rose a c
rose_from a b c le r = omega (arith, le, r)

pub cuts_from : (limits : Terms) (now : ℕ) (d0 d : DeskNow) (s0 s : StageNow) (net0 net net' : NetState) (client' : LinkState) (served : Option Served) → IsSoFar d0 s0 net0 d s net → CutsRecord limits now d s net client' net' served
    → CutsRecord limits now d0 s0 net0 client' net' served
cuts_from limits now d0 d s0 s net0 net net' client' served k cuts = λ r c w b is kind_is was.
    let e0 = exchange_of s0 b was in
    let e = k.was e0.0 e0.1 in
    let x = k.exchange e.0 e.1 in
    let same : x.0 ≡ e0.0 = one x.0 e0.0 (sym x.1 ∙ e0.1) in
    let stays : BusyStays b e.0.busy = subst (λ (q : BusyNow). BusyStays q e.0.busy) (ap (λ (q : ExchangeNow). q.busy) same ∙ e0.2) x.2 in
    let z = cuts r c w e.0.busy is kind_is (ap conn_seen e.1) in
    (z.0, buries_from b e.0.busy net0 net net' z.0 stays k.net_same z.1, λ front. by_cause front w z.0 b e.0.busy stays (z.2 front))
  where
    one : (p q : ExchangeNow) → Exchanging p ≡ Exchanging q → p ≡ q
    one p q e = cc

    comes : (o : Option Millis) → HasCome o d.since.0 now → HasCome o d0.since.0 now
    comes o h = subst (λ (m : Millis). HasCome o m.0 now) (ap (λ (x : DeskNow). x.since) k.desk) h

    given : d.gave_from < d.client.sent_count → d0.gave_from < d0.client.sent_count
    given h = omega (arith, h, ap (λ (x : DeskNow). x.gave_from) k.desk, ap (λ (l : LinkState). l.sent_count) k.client.link)

    asked : (P : List ℕ → Type 0) (o : Option (List ℕ)) → IfSome o (λ bytes. P (drop d.ask_from bytes)) → IfSome o (λ bytes. P (drop d0.ask_from bytes))
    asked P o h = subst (λ (n : ℕ). IfSome o (λ bytes. P (drop n bytes))) (ap (λ (x : DeskNow). x.ask_from) k.desk) h

    by_client : (front : ℕ) → ClientStops (limits_in limits) (session_seen front d s) client' now → ClientStops (limits_in limits) (session_seen front d0 s0) client' now
    by_client front (inl h) = inl (h.0, asked (λ bytes. (n : ℕ) → HasWholeRequest bytes n → ⊥) client'.taken h.1)
    by_client front (inr (inl h)) = inr (inl (rose_from d0.client.faults d.client.faults client'.faults k.client.faults h))
    by_client front (inr (inr (inl h))) = inr (inr (inl (comes limits.client h)))
    by_client front (inr (inr (inr h))) = inr (inr (inr (
      given h.0,
      subst (λ (o : Option (List ℕ)). IfSome o (λ bytes. HasBadChunks (drop d0.ask_from bytes))) (ap (λ (l : LinkState). l.taken) k.client.link) (asked HasBadChunks d.client.taken h.1),
    )))

    by_ended : (a b : BusyNow) → BusyStays a b → ServerEnded b → ServerEnded a
    by_ended a b stays h = (sym (ap (λ (y : LinkState). y.told_end) stays.link.link) ∙ h.0, answer_stays IsNoAnswer a b stays h.1)

    by_cause : (front : ℕ) (w : CutCause) (l : LinkState) (a b : BusyNow) → BusyStays a b → CutsFor (limits_in limits) (session_seen front d s) client' b l now w → CutsFor (limits_in limits) (session_seen front d0 s0) client' a l now w
    by_cause front w l a b stays early = early
    by_cause front w l a b stays (ended g h) = ended (given g) (by_ended a b stays h)
    by_cause front w l a b stays (fault g h) = fault (given g) h
    by_cause front w l a b stays (why.broken g h) = why.broken (given g) (answer_stays IsBrokenAnswer a b stays h)
    by_cause front w l a b stays (late g h) = late (given g) (⊎_elim (λ z. inl (comes limits.connect z)) (λ z. inr (comes limits.server z)) h)
    by_cause front w l a b stays (client h) = client (by_client front h)
    by_cause front w l a b stays (silent m h) =
        silent (record {
          later = omega (arith, m.later, ap (λ (x : DeskNow). x.number) k.desk);
          used = omega (arith, m.used, uses_stay a b stays);
          nothing = sym (ap (λ (l : LinkState). l.taken_count) stays.link.link) ∙ (m.nothing ∙ from_stays a b stays);
          given = omega (arith, m.given, ap (λ (x : DeskNow). x.gave_from) k.desk, ap (λ (l : LinkState). l.sent_count) k.client.link);
        }) (⊎_elim (λ z. inl (by_ended a b stays z)) (λ z. inr z) h)

-- a link with the waits and the faults of another one
abbrev with_waits : LinkState → LinkState → LinkState
with_waits c l = record l {
  faults = c.faults;
  read_waits = c.read_waits;
  read_wait_at = c.read_wait_at;
  read_waited = c.read_waited;
  write_waits = c.write_waits;
  write_wait_at = c.write_wait_at;
  read_length = c.read_length;
  write_length = c.write_length;
}

-- parts of a step behind one another
link_then : (a b c : LinkState) → MovesNoByte a b → MovesNoByte b c → MovesNoByte a c
link_then a b c x y = record { link = y.link ∙ ap with_them x.link; faults = omega (arith, x.faults, y.faults) }
  where
    with_them : LinkState → LinkState
    with_them l = record l {
      faults = c.faults;
      read_waits = c.read_waits;
      read_wait_at = c.read_wait_at;
      read_waited = c.read_waited;
      write_waits = c.write_waits;
      write_wait_at = c.write_wait_at;
      read_length = c.read_length;
      write_length = c.write_length;
    }

busy_then : (a b c : BusyNow) → BusyStays a b → BusyStays b c → BusyStays a c
busy_then a b c x y = record {
  busy = y.busy ∙ ap (λ (q : BusyNow). record q { link = c.link; exchange = record q.exchange { failed = c.exchange.failed } }) x.busy;
  link = link_then a.link b.link c.link x.link y.link;
}

far_then : (d0 d d' : DeskNow) (s0 s s' : StageNow) (net0 net net' : NetState) → IsSoFar d0 s0 net0 d s net → IsSoFar d s net d' s' net' → IsSoFar d0 s0 net0 d' s' net'
far_then d0 d d' s0 s s' net0 net net' x y = record {
  desk = y.desk ∙ ap (λ (q : DeskNow). with_client q d'.client) x.desk;
  client = link_then d0.client d.client d'.client x.client y.client;
  exchange = λ e is.
      let f = y.exchange e is in
      let g = x.exchange f.0 f.1 in
      (g.0, g.1, busy_then g.0.busy f.0.busy e.busy g.2 f.2);
  was = λ e0 is. let f = x.was e0 is in y.was f.0 f.1;
  own = y.own ∙ x.own;
  net_same = y.net_same ∙ x.net_same;
}

pub came_from : {X : Type 0} (limits : Terms) (now : ℕ) (d0 d d' : DeskNow) (s0 s : StageNow) (net0 net net' : NetState) (c : Came X) → IsSoFar d0 s0 net0 d s net → CameDecides limits now d s net d' c net' → CameDecides limits now d0 s0 net0 d' c net'
came_from limits now d0 d d' s0 s net0 net net' (On stage w) k x = far_then d0 d d' s0 s (stage_now stage) net0 net net' k x
came_from limits now d0 d d' s0 s net0 net net' (Moved stage w served) k x =
    (λ none status is. answers_from limits now d0 d s0 s net0 net net' status k (x.0 (k.own ∙ none) status is), cuts_from limits now d0 d s0 s net0 net net' d'.client served k x.1)
came_from limits now d0 d d' s0 s net0 net net' (Ends e) k x = (cuts_from limits now d0 d s0 s net0 net net' d'.client e.served k x.0, x.1)

-- a step that begins
none_moved : (l : LinkState) → MovesNoByte l l
none_moved l = record { link = refl; faults = omega arith }

pub far_self : (d : DeskNow) (s : StageNow) (net : NetState) → IsSoFar d s net d s net
far_self d s net = record {
  desk = refl;
  client = none_moved d.client;
  exchange = λ e is. (e, is, record { busy = refl; link = none_moved e.busy.link });
  was = λ e is. (e, is);
  own = refl;
  net_same = refl;
}

-- no exchange is cut off without a record
pub none_cut : (limits : Terms) (now : ℕ) (d0 : DeskNow) (s0 : StageNow) (net0 : NetState) (client' : LinkState) (net : NetState) → CutsRecord limits now d0 s0 net0 client' net None
none_cut limits now d0 s0 net0 client' net = λ r c w b is kind_is was. absurd (never r is)
  where
    never : (r : Served) → None ≡ Some r → ⊥
    never r e = cc

-- a part that ends an exchange
pub ends_decide : {X : Type 0} (limits : Terms) (now : ℕ) (d0 d d' : DeskNow) (e : ExchangeNow) (net net' : NetState) (Own : ℕ → Type 0) (Cuts : CutCause → Type 0) (c : Came X)
    → ((status : ℕ) → Own status → IsBusy e.busy → Buries e.busy net net' (loose e.busy.link) → OwnAnswers limits now d0 (Exchanging e) net net' status)
    → ((w : CutCause) → Cuts w → IsBusy e.busy → (front : ℕ) → CutsFor (limits_in limits) (session_seen front d0 (Exchanging e)) d.client e.busy (loose e.busy.link) now w)
    → EndsAs d e.busy net Own Cuts d' c net' → CameDecides limits now d0 (Exchanging e) net d' c net'
ends_decide limits now d0 d d' e net net' Own Cuts (On stage w) own cuts k = absurd k
ends_decide limits now d0 d d' e net net' Own Cuts (Moved stage w served) own cuts (o, none, busy, buries) = (
  λ nothing status is. subst (λ (n : ℕ). OwnAnswers limits now d0 (Exchanging e) net net' n) (one o.0 status (sym o.1 ∙ is)) (own o.0 o.2 busy buries),
  subst (λ (q : Option Served). CutsRecord limits now d0 (Exchanging e) net d'.client net' q) (sym none) (none_cut limits now d0 (Exchanging e) net d'.client net'),
)
  where
    one : (p q : ℕ) → Some p ≡ Some q → p ≡ q
    one p q z = cc
ends_decide limits now d0 d d' e net net' Own Cuts (Ends x) own cuts (o, held, same, busy, buries) = (
  λ r c w b is kind_is was.
      let rec : o.0 ≡ r = record_is o.0 r (sym o.3 ∙ is) in
      let what : o.2 ≡ w = cause_is o.1 c o.2 w (sym o.4 ∙ (ap (λ (q : Served). q.kind) rec ∙ kind_is)) in
      let conn : e.busy ≡ b = busy_is e.busy b was in
      subst (λ (q : BusyNow). CutsWhy limits now d0 (Exchanging e) net d'.client net' q w) conn (
        loose e.busy.link,
        buries,
        λ front. subst (λ (l : LinkState). CutsFor (limits_in limits) (session_seen front d0 (Exchanging e)) l e.busy (loose e.busy.link) now w) (sym same)
            (subst (λ (q : CutCause). CutsFor (limits_in limits) (session_seen front d0 (Exchanging e)) d.client e.busy (loose e.busy.link) now q) what (cuts o.2 o.5 busy front)),
      ),
  λ r c w is kind_is. held,
)
  where
    record_is : (p q : Served) → Some p ≡ Some q → p ≡ q
    record_is p q z = cc

    cause_is : (c k : Carried) (p q : CutCause) → kind.Cut c p ≡ kind.Cut k q → p ≡ q
    cause_is c k p q z = cc

    busy_is : (p q : BusyNow) → Some (seen.Exchanging p) ≡ Some (seen.Exchanging q) → p ≡ q
    busy_is p q z = cc

pub ends_map : {X : Type 0} (d : DeskNow) (b : BusyNow) (net : NetState) (Own Own' : ℕ → Type 0) (Cuts Cuts' : CutCause → Type 0) (d' : DeskNow) (c : Came X) (net' : NetState) → ((k : ℕ) → Own k → Own' k) → ((w : CutCause) → Cuts w → Cuts' w)
    → EndsAs d b net Own Cuts d' c net' → EndsAs d b net Own' Cuts' d' c net'
ends_map d b net Own Own' Cuts Cuts' d' (On stage w) net' f g k = k
ends_map d b net Own Own' Cuts Cuts' d' (Moved stage w served) net' f g k = ((k.0.0, k.0.1, f k.0.0 k.0.2), k.1, k.2, k.3)
ends_map d b net Own Own' Cuts Cuts' d' (Ends e) net' f g k = ((k.0.0, k.0.1, k.0.2, k.0.3, k.0.4, g k.0.2 k.0.5), k.1, k.2, k.3, k.4)

-- an event of the server's side
pub server_decides : {X : Type 0} (limits : Terms) (now : ℕ) (d d' : DeskNow) (e : ExchangeNow) (net net' : NetState) (w : CutCause) (status : ℕ) (c : Came X)
    → (Buries e.busy net net' (loose e.busy.link) → OwnAnswers limits now d (Exchanging e) net net' status)
    → (Given d → (front : ℕ) → CutsFor (limits_in limits) (session_seen front d (Exchanging e)) d.client e.busy (loose e.busy.link) now w)
    → EndsByServer d e.busy net w status d' c net' → CameDecides limits now d (Exchanging e) net d' c net'
server_decides limits now d d' e net net' w status c own cuts k = ends_decide limits now d d d' e net net' (λ n. (n ≡ status) × Ungiven d) (λ x. (x ≡ w) × Given d) c
    (λ n o busy buries. subst (λ (m : ℕ). OwnAnswers limits now d (Exchanging e) net net' m) (sym o.0) (own buries))
    (λ x o busy front. subst (λ (y : CutCause). CutsFor (limits_in limits) (session_seen front d (Exchanging e)) d.client e.busy (loose e.busy.link) now y) (sym o.0) (cuts o.1 front))
    k

-- its link ended or failed
silent_as : (front : ℕ) (d : DeskNow) (e : ExchangeNow) → IsCarried d e → IsSilent d e.busy → MayBeSilent (session_seen front d (Exchanging e)) e.busy
silent_as front d e c m = record { later = omega (arith, m.later); used = m.used; nothing = m.nothing; given = omega (arith, m.given, c.desk.given) }

heard_as : (front : ℕ) (d : DeskNow) (e : ExchangeNow) → IsHeard d e.busy → NotSilent (session_seen front d (Exchanging e)) e.busy
heard_as front d e h = ⊎_elim (λ first. inl (omega (arith, first))) (λ x. inr x) h

given_as : (d : DeskNow) (e : ExchangeNow) → IsCarried d e → Given d → d.gave_from < d.client.sent_count
given_as d e c g = omega (arith, g, c.desk.given)

pub loss_decides : {X : Type 0} (limits : Terms) (now : ℕ) (d d' : DeskNow) (e : ExchangeNow) (net net' : NetState) (w : CutCause) (c : Came X) → IsCarried d e
    → (IsBusy e.busy → ServerEnded e.busy ⊎ ServerFailed (loose e.busy.link))
    → (IsBusy e.busy → Given d → (front : ℕ) → CutsFor (limits_in limits) (session_seen front d (Exchanging e)) d.client e.busy (loose e.busy.link) now w)
    → LosesServer d e.busy net w 502 d' c net' → CameDecides limits now d (Exchanging e) net d' c net'
loss_decides limits now d d' e net net' w c carried event cuts k = ends_decide limits now d d d' e net net' (λ n. (n ≡ 502) × IsHeard d e.busy) (λ x. ((x ≡ w) × Given d) ⊎ ((x ≡ cut.Silent) × IsSilent d e.busy)) c
    (λ n o busy buries. subst (λ (m : ℕ). OwnAnswers limits now d (Exchanging e) net net' m) (sym o.0) (λ front. lost e.busy (loose e.busy.link) refl buries (event busy) (heard_as front d e o.1)))
    (λ x o busy front. ⊎_elim
    (λ y. subst (λ (z : CutCause). CutsFor (limits_in limits) (session_seen front d (Exchanging e)) d.client e.busy (loose e.busy.link) now z) (sym y.0) (cuts busy y.1 front))
    (λ y. subst (λ (z : CutCause). CutsFor (limits_in limits) (session_seen front d (Exchanging e)) d.client e.busy (loose e.busy.link) now z) (sym y.0) (silent (silent_as front d e carried y.1) (event busy)))
    o)
    k

-- the causes of cuts, where something was given
pub ended_cut : (limits : Terms) (now : ℕ) (d : DeskNow) (e : ExchangeNow) → IsCarried d e → ServerEnded e.busy → Given d → (front : ℕ) → CutsFor (limits_in limits) (session_seen front d (Exchanging e)) d.client e.busy (loose e.busy.link) now cut.Ended
ended_cut limits now d e c s g front = ended (given_as d e c g) s

pub fault_cut : (limits : Terms) (now : ℕ) (d : DeskNow) (e : ExchangeNow) → IsCarried d e → ServerFailed (loose e.busy.link) → Given d → (front : ℕ) → CutsFor (limits_in limits) (session_seen front d (Exchanging e)) d.client e.busy (loose e.busy.link) now cut.Fault
fault_cut limits now d e c s g front = fault (given_as d e c g) s

pub broken_decides : {X : Type 0} (limits : Terms) (now : ℕ) (d d' : DeskNow) (e : ExchangeNow) (net net' : NetState) (c : Came X) → IsCarried d e → AnswerBroke e.busy → EndsByServer d e.busy net cut.Broken 502 d' c net'
    → CameDecides limits now d (Exchanging e) net d' c net'
broken_decides limits now d d' e net net' c carried broke_ k = server_decides limits now d d' e net net' cut.Broken 502 c
    (λ buries front. broke e.busy (loose e.busy.link) refl buries broke_) (λ g front. why.broken (given_as d e carried g) broke_) k

pub bad_decides : {X : Type 0} (limits : Terms) (now : ℕ) (d d' : DeskNow) (e : ExchangeNow) (net net' : NetState) (c : Came X) → IsCarried d e → IfSome d.client.taken (λ bytes. HasBadChunks (drop d.ask_from bytes))
    → EndsByServer d e.busy net cut.Client 400 d' c net' → CameDecides limits now d (Exchanging e) net d' c net'
bad_decides limits now d d' e net net' c carried bad k = server_decides limits now d d' e net net' cut.Client 400 c
    (λ buries front. bad_request 400 (bad_as d.client.taken bad)) (λ g front. client (inr (inr (inr (given_as d e carried g, bad))))) k
  where
    bad_as : (o : Option (List ℕ)) → IfSome o (λ bytes. HasBadChunks (drop d.ask_from bytes)) → IfSome o (λ bytes. IsBadRequest 400 (drop d.ask_from bytes))
    bad_as None h = tt
    bad_as (Some bytes) h = inr (refl, h)

pub client_decides : {X : Type 0} (limits : Terms) (now : ℕ) (d d' : DeskNow) (e : ExchangeNow) (net net' : NetState) (c : Came X) → HasCome limits.client d.since.0 now
    → EndsByServer d e.busy net cut.Client 408 d' c net' → CameDecides limits now d (Exchanging e) net d' c net'
client_decides limits now d d' e net net' c late_ k = server_decides limits now d d' e net net' cut.Client 408 c (λ buries front. client_late late_) (λ g front. client (inr (inr (inl late_)))) k

pub late_decides : {X : Type 0} (limits : Terms) (now : ℕ) (d d' : DeskNow) (e : ExchangeNow) (net net' : NetState) (status : ℕ) (c : Came X) → IsCarried d e → ServerLate limits now d status
    → EndsByServer d e.busy net cut.Late status d' c net' → CameDecides limits now d (Exchanging e) net d' c net'
late_decides limits now d d' e net net' status c carried late_ k = server_decides limits now d d' e net net' cut.Late status c
    (λ buries front. ⊎_elim
    (λ x. subst (λ (n : ℕ). Decides (limits_in limits) (session_seen front d (Exchanging e)) net net' now (HasLack limits.lack) n) (sym x.0) (connect_late x.1))
    (λ x. subst (λ (n : ℕ). Decides (limits_in limits) (session_seen front d (Exchanging e)) net net' now (HasLack limits.lack) n) (sym x.0) (server_late x.1))
    late_)
    (λ g front. late (given_as d e carried g) (⊎_elim (λ x. inl x.1) (λ x. inr x.1) late_))
    k

-- the exchange is cut off for its client
pub cut_decides : {X : Type 0} (limits : Terms) (now : ℕ) (d0 d d' : DeskNow) (e : ExchangeNow) (net net' : NetState) (w : CutCause) (c : Came X)
    → ((front : ℕ) → CutsFor (limits_in limits) (session_seen front d0 (Exchanging e)) d.client e.busy (loose e.busy.link) now w) → CutsAs d e.busy net w d' c net' → CameDecides limits now d0 (Exchanging e) net d' c net'
cut_decides limits now d0 d d' e net net' w c cuts k = ends_decide limits now d0 d d' e net net' (λ n. ⊥) (λ x. x ≡ w) c (λ n o busy buries. absurd o)
    (λ x o busy front. subst (λ (y : CutCause). CutsFor (limits_in limits) (session_seen front d0 (Exchanging e)) d.client e.busy (loose e.busy.link) now y) (sym o) (cuts front)) k

-- a part that passes bytes on, or changes nothing
none_own : (s : StageNow) (status : ℕ) → own_seen s ≡ None → own_seen s ≡ Some status → ⊥
none_own s status none some = none_some (sym none ∙ some)
  where
    none_some : None ≡ Some status → ⊥
    none_some z = cc

pub far_same : (d d' : DeskNow) (s t : StageNow) (net : NetState) → d' ≡ d → t ≡ s → IsSoFar d s net d' t net
far_same d d' s t net e f = subst (λ (x : DeskNow). IsSoFar d s net x t net) (sym e) (subst (λ (x : StageNow). IsSoFar d s net d x net) (sym f) (far_self d s net))

pub passes_decide : {X : Type 0} (limits : Terms) (now : ℕ) (d d' : DeskNow) (s : StageNow) (net : NetState) (c : Came X) → PassesOn c → LeavesNothing d s d' c → CameDecides limits now d s net d' c net
passes_decide limits now d d' s net (On stage w) p k = far_same d d' s (stage_now stage) net k.0 k.1
passes_decide limits now d d' s net (Moved stage w served) p k = (
  λ none status is. absurd (none_own (stage_now stage) status p.0 is),
  subst (λ (q : Option Served). CutsRecord limits now d s net d'.client net q) (sym p.1) (none_cut limits now d s net d'.client net),
)
passes_decide limits now d d' s net (Ends e) p k = absurd p

-- one that tells an exchange as passed
passed_cut : (limits : Terms) (now : ℕ) (d : DeskNow) (s : StageNow) (net : NetState) (client' : LinkState) (net' : NetState) (served : Option Served) (r : Served) (c : Carried) → r.kind ≡ kind.Passed c → served ≡ Some r → CutsRecord limits now d s net client' net' served
passed_cut limits now d s net client' net' served r c passed is = λ q k w b at kind_is was. absurd (other k w (sym passed ∙ (ap (λ (x : Served). x.kind) (record_is r q (sym is ∙ at)) ∙ kind_is)))
  where
    record_is : (p q : Served) → Some p ≡ Some q → p ≡ q
    record_is p q z = cc

    other : (k : Carried) (w : CutCause) → kind.Passed c ≡ kind.Cut k w → ⊥
    other k w z = cc

pub passed_decides : {X : Type 0} (limits : Terms) (now : ℕ) (d d' : DeskNow) (s : StageNow) (net net' : NetState) (came : Came X) (r : Served) (c : Carried) → r.kind ≡ kind.Passed c → HasPassed came r → CameDecides limits now d s net d' came net'
passed_decides limits now d d' s net net' (On stage w) r c passed k = absurd k
passed_decides limits now d d' s net net' (Moved stage w served) r c passed k =
    (λ none status is. absurd (none_own (stage_now stage) status k.0 is), passed_cut limits now d s net d'.client net' served r c passed k.1)
passed_decides limits now d d' s net net' (Ends e) r c passed k = (
  passed_cut limits now d s net d'.client net' e.served r c passed k,
  λ q p w at kind_is. absurd (other p w (sym passed ∙ (ap (λ (x : Served). x.kind) (record_is r q (sym k ∙ at)) ∙ kind_is))),
)
  where
    record_is : (p q : Served) → Some p ≡ Some q → p ≡ q
    record_is p q z = cc

    other : (p : Carried) (w : CutCause) → kind.Passed c ≡ kind.Cut p w → ⊥
    other p w z = cc

-- without an exchange none is cut off
abbrev pub NotExchanging : StageNow → Type 0
NotExchanging s = (e : ExchangeNow) → s ≡ Exchanging e → ⊥

pub no_cut : (limits : Terms) (now : ℕ) (d : DeskNow) (s : StageNow) (net : NetState) (client' : LinkState) (net' : NetState) (served : Option Served) → NotExchanging s → CutsRecord limits now d s net client' net' served
no_cut limits now d s net client' net' served other = λ r c w b is kind_is was. let e = exchange_of s b was in absurd (other e.0 e.1)

-- while an own answer is given
pub answering_decides : {X : Type 0} (limits : Terms) (now : ℕ) (d d' : DeskNow) (a : AnsweringNow) (net net' : NetState) (c : Came X) → HasMoved c → GivesOwnOnly c → CameDecides limits now d (Answering a) net d' c net'
answering_decides limits now d d' a net net' (On stage w) k g = absurd k
answering_decides limits now d d' a net net' (Moved stage w served) k g = (λ none status is. absurd (some_none none), no_cut limits now d (Answering a) net d'.client net' served (λ e z. cc))
  where
    some_none : Some a.status ≡ None → ⊥
    some_none z = cc
answering_decides limits now d d' a net net' (Ends e) k g = (no_cut limits now d (Answering a) net d'.client net' e.served (λ x z. cc), g)

far_client : (d d' : DeskNow) (s : StageNow) (net : NetState) → d' ≡ with_client d d'.client → MovesNoByte d.client d'.client → IsSoFar d s net d' s net
far_client d d' s net is moves = record {
  desk = is;
  client = moves;
  exchange = λ e at. (e, at, record { busy = refl; link = none_moved e.busy.link });
  was = λ e at. (e, at);
  own = refl;
  net_same = refl;
}

-- a call of the client's link that moved no byte
pub gives_far : (d d' : DeskNow) (s : StageNow) (net : NetState) (now : ℕ) (m : Move) → IsQuiet m → GivesClient d d' now m → IsSoFar d s net d' s net
gives_far d d' s net now Idle q g = far_same d d' s s net g.0 refl
gives_far d d' s net now Bytes q g = absurd q
gives_far d d' s net now Waits q g = far_client d d' s net g.0 (record { link = ap (with_waits d'.client) g.1.0; faults = omega (arith, ap (λ (l : LinkState). l.faults) g.1.0) })
gives_far d d' s net now Ended q g = absurd q
gives_far d d' s net now Failed q g = far_client d d' s net g.0 (record { link = ap (with_waits d'.client) g.1.0; faults = g.1.1.0 })

pub reads_far : (d d' : DeskNow) (s : StageNow) (net : NetState) (now : ℕ) (m : Move) → (m ≡ Ended → ⊥) → IsQuiet m → ReadsClient d d' now m → IsSoFar d s net d' s net
reads_far d d' s net now Idle ended_ q g = far_same d d' s s net g.0 refl
reads_far d d' s net now Bytes ended_ q g = absurd q
reads_far d d' s net now Waits ended_ q g = far_client d d' s net g.0 (record { link = ap (with_waits d'.client) g.1.0; faults = omega (arith, ap (λ (l : LinkState). l.faults) g.1.0) })
reads_far d d' s net now Ended ended_ q g = absurd q
reads_far d d' s net now Failed ended_ q g = far_client d d' s net g.0 (record { link = ap (with_waits d'.client) g.1.0; faults = g.1.1.0 })

-- a call of the connection's link that moved no byte
far_link : (d d' : DeskNow) (e e' : ExchangeNow) (net : NetState) → d' ≡ d → BusyStays e.busy e'.busy → IsSoFar d (Exchanging e) net d' (Exchanging e') net
far_link d d' e e' net same stays = subst (λ (x : DeskNow). IsSoFar d (Exchanging e) net x (Exchanging e') net) (sym same) (record {
  desk = refl;
  client = none_moved d.client;
  exchange = λ x is. (e, refl, subst (λ (y : ExchangeNow). BusyStays e.busy y.busy) (one e' x is) stays);
  was = λ x is. (e', refl);
  own = refl;
  net_same = refl;
})
  where
    one : (p q : ExchangeNow) → Exchanging p ≡ Exchanging q → p ≡ q
    one p q z = cc

link_stays : (e e' : ExchangeNow) → e' ≡ with_link e e'.busy.link → MovesNoByte e.busy.link e'.busy.link → BusyStays e.busy e'.busy
link_stays e e' is moves =
    let busy : e'.busy ≡ record e.busy { link = e'.busy.link } = ap (λ (x : ExchangeNow). x.busy) is in
    record { busy = busy ∙ ap (λ (f : Bool). record e.busy { link = e'.busy.link; exchange = record e.busy.exchange { failed = f } }) (sym (ap (λ (x : BusyNow). x.exchange.failed) busy)); link = moves }

pub sends_far : (d d' : DeskNow) (e e' : ExchangeNow) (net : NetState) (now : ℕ) (m : Move) → IsQuiet m → SendsNone d e d' e' now m → IsSoFar d (Exchanging e) net d' (Exchanging e') net
sends_far d d' e e' net now Idle q k = far_same d d' (Exchanging e) (Exchanging e') net k.0 (ap Exchanging k.1)
sends_far d d' e e' net now Bytes q k = absurd q
sends_far d d' e e' net now Waits q k = far_link d d' e e' net k.0 (link_stays e e' k.1 (record { link = ap (with_waits e'.busy.link) k.2.0; faults = omega (arith, ap (λ (l : LinkState). l.faults) k.2.0) }))
sends_far d d' e e' net now Ended q k = absurd q
sends_far d d' e e' net now Failed q k = far_link d d' e e' net k.desk k.busy

pub server_far : (d d' : DeskNow) (e e' : ExchangeNow) (net : NetState) (now : ℕ) (m : Move) → IsQuiet m → ReadsNone d e d' e' now m → IsSoFar d (Exchanging e) net d' (Exchanging e') net
server_far d d' e e' net now Idle q k = far_same d d' (Exchanging e) (Exchanging e') net k.0 (ap Exchanging k.1)
server_far d d' e e' net now Bytes q k = absurd q
server_far d d' e e' net now Waits q k = far_link d d' e e' net k.0 (link_stays e e' k.1 (record { link = ap (with_waits e'.busy.link) k.2.0; faults = omega (arith, ap (λ (l : LinkState). l.faults) k.2.0) }))
server_far d d' e e' net now Ended q k = absurd q
server_far d d' e e' net now Failed q k = far_link d d' e e' net k.desk k.busy

-- a server is chosen
pub turn_far : (d0 d : DeskNow) (s0 : StageNow) (net0 net : NetState) (servers : List Server) (turn turn' : ℕ) (olds news : List History) (s s' : StageNow) → ChoosesIn servers turn turn' olds news s s' → IsSoFar d0 s0 net0 d s net → IsSoFar d0 s0 net0 d s' net
turn_far d0 d s0 net0 net servers turn turn' olds news (Reading held) s' k x = subst (λ (y : StageNow). IsSoFar d0 s0 net0 d y net) (sym k.0) x
turn_far d0 d s0 net0 net servers turn turn' olds news (Exchanging e) s' k x = subst (λ (y : StageNow). IsSoFar d0 s0 net0 d y net) (sym k.0) x
turn_far d0 d s0 net0 net servers turn turn' olds news (Answering a) s' k x = subst (λ (y : StageNow). IsSoFar d0 s0 net0 d y net) (sym k.0) x
turn_far d0 d s0 net0 net servers turn turn' olds news Left s' k x = subst (λ (y : StageNow). IsSoFar d0 s0 net0 d y net) (sym k.0) x
turn_far d0 d s0 net0 net servers turn turn' olds news (Choosing c) s' k x = subst (λ (y : StageNow). IsSoFar d0 s0 net0 d y net) (sym k.1) (record {
  desk = x.desk;
  client = x.client;
  exchange = λ e is. absurd (other k.0 e is);
  was = λ e is. absurd (other c (x.was e is).0 (x.was e is).1);
  own = x.own;
  net_same = x.net_same;
})
  where
    other : (q : ChoosingNow) (e : ExchangeNow) → Choosing q ≡ Exchanging e → ⊥
    other q e z = cc

-- a step that is over
pub done_stays : (limits : Terms) (now : ℕ) (d0 : DeskNow) (s0 : StageNow) (net0 : NetState) (d : DeskNow) (s : StageNow) (net : NetState) → IsSoFar d0 s0 net0 d s net → DoneDecides limits now d0 s0 net0 d s net None
done_stays limits now d0 s0 net0 d s net k = record {
  own = λ none status is. absurd (none_own s status (k.own ∙ none) is);
  cut = none_cut limits now d0 s0 net0 d.client net;
}

-- the session leaves, and its client's link is on no loop
loose_cut : (limits : Terms) (now : ℕ) (d0 : DeskNow) (s0 : StageNow) (c c' : LinkState) (b : BusyNow) (l : LinkState) (w : CutCause) (front : ℕ) → c' ≡ record c { on_loop = None } → CutsFor (limits_in limits) (session_seen front d0 s0) c b l now w
    → CutsFor (limits_in limits) (session_seen front d0 s0) c' b l now w
loose_cut limits now d0 s0 c c' b l w front is k = subst (λ (x : LinkState). CutsFor (limits_in limits) (session_seen front d0 s0) x b l now w) (sym is) (by_cause w k)
  where
    by_cause : (w : CutCause) → CutsFor (limits_in limits) (session_seen front d0 s0) c b l now w → CutsFor (limits_in limits) (session_seen front d0 s0) (record c { on_loop = None }) b l now w
    by_cause w early = early
    by_cause w (ended g h) = ended g h
    by_cause w (fault g h) = fault g h
    by_cause w (why.broken g h) = why.broken g h
    by_cause w (late g h) = late g h
    by_cause w (client h) = client h
    by_cause w (silent m h) = silent m h

pub done_leaves : (limits : Terms) (now : ℕ) (d0 : DeskNow) (s0 : StageNow) (net0 : NetState) (d d' : DeskNow) (net net' : NetState) (held : Option RestedNow) (served : Option Served) → CutsRecord limits now d0 s0 net0 d.client net served
    → ((r : Served) (c : Carried) (w : CutCause) → served ≡ Some r → r.kind ≡ kind.Cut c w → held ≡ None) → (held ≡ None → net'.buried ≡ net.buried) → d'.client ≡ record d.client { on_loop = None }
    → DoneDecides limits now d0 s0 net0 d' Left net' served
done_leaves limits now d0 s0 net0 d d' net net' held served cuts none stays is = record {
  own = λ nothing status z. absurd (never status z);
  cut = λ r c w b at kind_is was.
      let k = cuts r c w b at kind_is was in
      let same = stays (none r c w at kind_is) in
      let x = k.1 in (
        k.0,
        record { dial = x.dial; same = x.same; taken = x.taken; sent = x.sent; ended = x.ended; buries = subst (λ (o : Option (List LinkState)). GainsAll (k.0 ∷ []) net0.buried o) (sym same) x.buries },
        λ front. loose_cut limits now d0 s0 d.client d'.client b k.0 w front is (k.2 front),
      );
}
  where
    never : (status : ℕ) → None ≡ Some status → ⊥
    never status z = cc

-- as the worker sees it
pub owns_for : (limits : Terms) (now front : ℕ) (d0 d : DeskNow) (s0 s : StageNow) (net0 net : NetState) (served : Option Served) → ((r : Served) (status : ℕ) → own_seen s0 ≡ None → served ≡ Some r → r.kind ≡ kind.Own status → ⊥)
    → DoneDecides limits now d0 s0 net0 d s net served → OwnsAs (limits_in limits) (HasLack limits.lack) (session_seen front d0 s0) (session_seen front d s) net0 net now served
owns_for limits now front d0 d s0 s net0 net served never k = λ none status is. ⊎_elim (λ z. k.own none status z front) (λ z. absurd (never z.0 status none z.1 z.2)) is

-- for other reasons that no server took it
why_map : (limits : Limits) (s : SessionNow) (net net' : NetState) (now : ℕ) (P Q : Unserved → Type 0) (n : ℕ) → ((u : Unserved) → P u → Q u) → Decides limits s net net' now P n → Decides limits s net net' now Q n
why_map limits s net net' now P Q n f (bad_request m h) = bad_request m h
why_map limits s net net' now P Q n f (client_late h) = client_late h
why_map limits s net net' now P Q n f (server_late h) = server_late h
why_map limits s net net' now P Q n f (connect_late h) = connect_late h
why_map limits s net net' now P Q n f (unserved u h) = unserved u (f u h)
why_map limits s net net' now P Q n f (broke b l was buries h) = broke b l was buries h
why_map limits s net net' now P Q n f (lost b l was buries h heard) = lost b l was buries h heard

pub owns_map : (limits : Limits) (P Q : Unserved → Type 0) (s s' : SessionNow) (net net' : NetState) (now : ℕ) (served : Option Served) → ((u : Unserved) → P u → Q u)
    → OwnsAs limits P s s' net net' now served → OwnsAs limits Q s s' net net' now served
owns_map limits P Q s s' net net' now served f k = λ none status is. why_map limits s net net' now P Q status f (k none status is)

pub cuts_for : (limits : Terms) (now front : ℕ) (d0 d : DeskNow) (s0 s : StageNow) (net0 net : NetState) (served : Option Served) → DoneDecides limits now d0 s0 net0 d s net served
    → CutsAllFor (limits_in limits) (session_seen front d0 s0) (session_seen front d s) net0 net now served
cuts_for limits now front d0 d s0 s net0 net served k = λ r c w b is kind_is was. let x = k.cut r c w b is kind_is was in (x.0, x.1, x.2 front)

-- the session leaves without a record
pub ends_none : {X : Type 0} (limits : Terms) (now : ℕ) (d : DeskNow) (s : StageNow) (net : NetState) (d' : DeskNow) (net' : NetState) (x : Ending X) → x.served ≡ None → CameDecides limits now d s net d' (Ends x) net'
ends_none limits now d s net d' net' x none = (
  subst (λ (q : Option Served). CutsRecord limits now d s net d'.client net' q) (sym none) (none_cut limits now d s net d'.client net'),
  λ r c w is kind_is. absurd (never r (sym none ∙ is)),
)
  where
    never : (r : Served) → None ≡ Some r → ⊥
    never r z = cc

-- a part that moved at the same stage without a record
pub same_moved : (limits : Terms) (now : ℕ) (d : DeskNow) (s : StageNow) (net : NetState) (d' : DeskNow) (net' : NetState)
    → (own_seen s ≡ None → (status : ℕ) → own_seen s ≡ Some status → OwnAnswers limits now d s net net' status) × CutsRecord limits now d s net d'.client net' None
same_moved limits now d s net d' net' = (λ none status is. absurd (none_own s status none is), none_cut limits now d s net d'.client net')

-- an own answer is decided outside of an exchange
pub own_moved : {X : Type 0} (limits : Terms) (now : ℕ) (d : DeskNow) (s : StageNow) (net : NetState) (d' : DeskNow) (net' : NetState) (stage : Stage X) (k : ℕ) → OwnIs k (stage_now stage) → OwnAnswers limits now d s net net' k
    → (own_seen s ≡ None → (status : ℕ) → own_seen (stage_now stage) ≡ Some status → OwnAnswers limits now d s net net' status) × CutsRecord limits now d s net d'.client net' None
own_moved limits now d s net d' net' stage k is own =
    (λ none status at. subst (λ (n : ℕ). OwnAnswers limits now d s net net' n) (sym (is status at)) own, none_cut limits now d s net d'.client net')

-- the same, where its cause is told of the answer that stands decided
pub own_lacks : {X : Type 0} (limits : Terms) (now : ℕ) (d : DeskNow) (s : StageNow) (net : NetState) (d' : DeskNow) (net' : NetState) (stage : Stage X) (k : ℕ) → OwnIs k (stage_now stage)
    → ((status : ℕ) → own_seen (stage_now stage) ≡ Some status → OwnAnswers limits now d s net net' k)
    → (own_seen s ≡ None → (status : ℕ) → own_seen (stage_now stage) ≡ Some status → OwnAnswers limits now d s net net' status) × CutsRecord limits now d s net d'.client net' None
own_lacks limits now d s net d' net' stage k is own =
    (λ none status at. subst (λ (n : ℕ). OwnAnswers limits now d s net net' n) (sym (is status at)) (own status at), none_cut limits now d s net d'.client net')

pub own_stage_is : (s : StageNow) (k : ℕ) (held : Option RestedNow) → s ≡ own_stage k held → OwnIs k s
own_stage_is s k held e = λ status at. one status k (sym at ∙ ap own_seen e)
  where
    one : (p q : ℕ) → Some p ≡ Some q → p ≡ q
    one p q z = cc

-- a record of an own answer is none of a cut
pub own_only : {X : Type 0} (status n : ℕ) (d : DeskNow) (c : Came X) → CameOwn status n d c → GivesOwnOnly c
own_only status n d (On stage w) k = tt
own_only status n d (Moved stage w served) k = tt
own_only status n d (Ends e) k = λ r c w is kind_is. absurd (other status c w (sym k.1.2 ∙ (ap (λ (q : Served). q.kind) (record_is k.1.0 r (sym k.1.1 ∙ is)) ∙ kind_is)))
  where
    record_is : (p q : Served) → Some p ≡ Some q → p ≡ q
    record_is p q z = cc

    other : (m : ℕ) (c : Carried) (w : CutCause) → kind.Own m ≡ kind.Cut c w → ⊥
    other m c w z = cc

-- a call of a connection's link failed
pub write_fails : (a b : LinkState) (now : ℕ) (bytes : List ℕ) → LinkWrites a b now put.Failed bytes → MovesNoByte a b
write_fails a b now bytes w = record { link = ap (with_waits b) w.0; faults = w.1.0 }

pub read_fails : (a b : LinkState) (now : ℕ) (into : List ℕ) → LinkReads a b now got.Failed into → MovesNoByte a b
read_fails a b now into r = record { link = ap (with_waits b) r.0; faults = r.1.0 }

or_true : (b : Bool) → (b || true) ≡ true
or_true true = refl
or_true false = refl

pub fails_now : (d d' : DeskNow) (e : ExchangeNow) (b : BusyNow) → d' ≡ d → b ≡ after_call e.busy b.link true → MovesNoByte e.busy.link b.link → FailsNow d e d' (record e { busy = b })
fails_now d d' e b same is moves = record {
  desk = same;
  busy = record {
    busy = is ∙ ap (λ (f : Bool). record e.busy { link = b.link; exchange = record e.busy.exchange { failed = f } }) (sym (ap (λ (x : BusyNow). x.exchange.failed) is));
    link = moves;
  };
  failed = ap (λ (x : BusyNow). x.exchange.failed) is ∙ or_true e.busy.exchange.failed;
}

-- an exchange that stays, or a head that was found
pub stays_decide : {X : Type 0} (limits : Terms) (now : ℕ) (d d' : DeskNow) (e : ExchangeNow) (net : NetState) (c : Came X) → d' ≡ d → StaysOrMoves e false c → PassesOn c → CameDecides limits now d (Exchanging e) net d' c net
stays_decide limits now d d' e net (On stage w) same k p = far_same d d' (Exchanging e) (stage_now stage) net same k
stays_decide limits now d d' e net (Moved stage w served) same k p = (
  λ none status is. absurd (none_own (stage_now stage) status p.0 is),
  subst (λ (q : Option Served). CutsRecord limits now d (Exchanging e) net d'.client net q) (sym p.1) (none_cut limits now d (Exchanging e) net d'.client net),
)
stays_decide limits now d d' e net (Ends x) same k p = absurd p

pub spelled_decides : {X : Type 0} (limits : Terms) (now : ℕ) (d : DeskNow) (e : ExchangeNow) (d2 : DeskNow) (e2 : ExchangeNow) (net : NetState) (spelled : Bool) (c : Came X) → (spelled ≡ false → SpellsNone d e d2 e2) → StaysOrMoves e2 spelled c → PassesOn c
    → CameDecides limits now d (Exchanging e) net d2 c net
spelled_decides limits now d e d2 e2 net true c full k p = passes_decide limits now d d2 (Exchanging e) net c p (moved_where c (λ t w. (d2 ≡ d) × (t ≡ Exchanging e) × NothingLeft d (Exchanging e)) k)
spelled_decides limits now d e d2 e2 net false c full k p =
    let f = full refl in
    stays_decide limits now d d2 e net c f.desk (where_then c (λ t w. t ≡ Exchanging e2) (λ t w. t ≡ Exchanging e) (λ t w q. q ∙ ap Exchanging f.exchange) k) p

-- the client ended before its request did
pub client_cut : (limits : Terms) (now : ℕ) (d : DeskNow) (e : ExchangeNow) → d.client.told_end ≡ true → NoneWhole d.client d.ask_from → (front : ℕ) → CutsFor (limits_in limits) (session_seen front d (Exchanging e)) d.client e.busy (loose e.busy.link) now cut.Client
client_cut limits now d e told none front = client (inl (told, none))

-- a head that is refused
pub refused_cause : (limits : Terms) (now : ℕ) (d : DeskNow) (held : Option RestedNow) (net : NetState) (f : AskFault) (status : ℕ) → IsBetween d → RefusesAsk f d.from.bytes → status ≡ status_of f → OwnAnswers limits now d (Reading held) net net status
refused_cause limits now d held net f status between refuses is = λ front.
    bad_request status (since_bytes (IsBadRequest status) d.client.taken d.client.taken_count d.ask_from d.from.bytes between.anew.taken (inl (f, refuses, is)))

-- a stage without an own answer
pub unowned : (limits : Terms) (now : ℕ) (d : DeskNow) (s : StageNow) (net : NetState) (d' : DeskNow) (net' : NetState) (t : StageNow) → own_seen t ≡ None
    → (own_seen s ≡ None → (status : ℕ) → own_seen t ≡ Some status → OwnAnswers limits now d s net net' status) × CutsRecord limits now d s net d'.client net' None
unowned limits now d s net d' net' t none = (λ nothing status is. absurd (none_own t status none is), none_cut limits now d s net d'.client net')

-- the client's deadline while a head is read
pub reads_late : (limits : Terms) (now : ℕ) (d : DeskNow) (held : Option RestedNow) → IsBetween d → ClientComes limits now d (Reading held) → d.ask_from < d.taken → HasCome limits.client d.since.0 now
reads_late limits now d held between comes some = ⊎_elim (λ h. h) (λ h. absurd (omega (arith, some, between.anew.desk.taken, between.anew.taken.count, ap (λ (xs : List ℕ). length xs) h.0))) comes

pub late_answer : (limits : Terms) (now : ℕ) (d : DeskNow) (s : StageNow) (net net' : NetState) (status : ℕ) → HasCome limits.client d.since.0 now → status ≡ 408 → OwnAnswers limits now d s net net' status
late_answer limits now d s net net' status h is = λ front. subst (λ (n : ℕ). Decides (limits_in limits) (session_seen front d s) net net' now (HasLack limits.lack) n) (sym is) (client_late h)

-- no server took the request
pub unserved_answer : (limits : Terms) (now : ℕ) (d : DeskNow) (s : StageNow) (net net' : NetState) → (u : Unserved) × HasLack limits.lack u → OwnAnswers limits now d s net net' 503
unserved_answer limits now d s net net' k = λ front. unserved k.0 k.1

-- another stage than an exchange has no deadline of a server
pub not_there : (limits : Terms) (now : ℕ) (d : DeskNow) (s : StageNow) (net : NetState) (t : StageNow) → s ≡ t → IsSoFar d s net d t net
not_there limits now d s net t e = far_same d d s t net refl (sym e)

-- what a session that leaves holds nothing of
pub lets_bury : (n : SessionNo) (held : Option RestedNow) (seats seats' : List History) (net net' : NetState) (a b : LinkState) → held ≡ None → LetsGo n held seats seats' net net' a b → net'.buried ≡ net.buried
lets_bury n held seats seats' net net' a b none k =
    let closes = subst (λ (h : Option RestedNow). ClosesAny seats seats' n h net k.between) none k.closes in
    ap (λ (x : NetState). x.buried) k.detaches.0.0 ∙ ap (λ (x : NetState). x.buried) closes.1

-- the client's deadline at another stage than where a head is read
pub not_reading : (limits : Terms) (now : ℕ) (d : DeskNow) (s t : StageNow) → s ≡ t → ((held : Option RestedNow) → t ≡ Reading held → ⊥) → ClientComes limits now d s → HasCome limits.client d.since.0 now
not_reading limits now d s t is other comes = ⊎_elim (λ h. h) (λ h. absurd (other h.1.0 (sym is ∙ h.1.1))) comes

-- an exchange of which bytes were moved
pub exchange_moved : (limits : Terms) (now : ℕ) (d : DeskNow) (e f : ExchangeNow) (net : NetState) (d' : DeskNow) (net' : NetState)
    → (own_seen (Exchanging e) ≡ None → (status : ℕ) → own_seen (Exchanging f) ≡ Some status → OwnAnswers limits now d (Exchanging e) net net' status) × CutsRecord limits now d (Exchanging e) net d'.client net' None
exchange_moved limits now d e f net d' net' = unowned limits now d (Exchanging e) net d' net' (Exchanging f) refl

-- a call of its connection's link failed
pub failed_decides : {X : Type 0} (limits : Terms) (now : ℕ) (d d1 d2 : DeskNow) (e e1 : ExchangeNow) (net net' : NetState) (c : Came X) → IsCarried d1 e1 → e1.busy.exchange.failed ≡ true → IsSoFar d (Exchanging e) net d1 (Exchanging e1) net
    → LosesServer d1 e1.busy net cut.Fault 502 d2 c net' → CameDecides limits now d (Exchanging e) net d2 c net'
failed_decides limits now d d1 d2 e e1 net net' c carried failed far k =
    came_from limits now d d1 d2 (Exchanging e) (Exchanging e1) net net net' c far
    (loss_decides limits now d1 d2 e1 net net' cut.Fault c carried (λ busy. inr (busy.fault failed)) (λ busy. fault_cut limits now d1 e1 carried (busy.fault failed)) k)

pub sends_fail : (d d' : DeskNow) (e e' : ExchangeNow) (now : ℕ) (m : Move) → m ≡ Failed → SendsNone d e d' e' now m → e'.busy.exchange.failed ≡ true
sends_fail d d' e e' now m is k = (subst (λ (x : Move). SendsNone d e d' e' now x) is k).failed

pub server_fails : (d d' : DeskNow) (e e' : ExchangeNow) (now : ℕ) (m : Move) → m ≡ Failed → ReadsNone d e d' e' now m → e'.busy.exchange.failed ≡ true
server_fails d d' e e' now m is k = (subst (λ (x : Move). ReadsNone d e d' e' now x) is k).failed

-- which deadline a step found
pub client_comes : (lack : Lack) (d : DeskNow) (s : StageNow) (front : Front) (back : Back) (now : ℕ) → FindsLate d s front back now (Some at.Client) → ClientComes (terms_of (limits_with (Some front) (Some back)) lack) now d s
client_comes lack d s front back now k = ⊎_elim (λ h. inl h) (λ h. inr (h.1.none, (h.1.held, h.1.reads))) k

pub server_comes : (lack : Lack) (d : DeskNow) (s : StageNow) (front : Front) (back : Back) (now : ℕ) (l : Late) → (l ≡ at.Client → ⊥) → FindsLate d s front back now (Some l) → ServerLate (terms_of (limits_with (Some front) (Some back)) lack) now d (status_for l)
server_comes lack d s front back now at.Client other k = absurd (other refl)
server_comes lack d s front back now at.Connect other k = inl (refl, k.2)
server_comes lack d s front back now at.Server other k = inr (refl, k.2)

-- a record of an own answer is given where one was decided
own_stage_none : (s : StageNow) (d : DeskNow) (w : LeftCause) (r : Served) (k : Kind) (status : ℕ) → k ≡ kind.Own status → own_seen s ≡ None → IsOfStage s d w r k → ⊥
own_stage_none (Answering a) d w r k status is none of = some_none none
  where
    some_none : Some a.status ≡ None → ⊥
    some_none z = cc
own_stage_none (Exchanging e) d w r (kind.Own n) status is none of = of
own_stage_none (Exchanging e) d w r (kind.Passed c) status is none of = cc
own_stage_none (Exchanging e) d w r (kind.Cut c x) status is none of = cc
own_stage_none (Reading held) d w r k status is none of = of
own_stage_none (Choosing c) d w r k status is none of = of
own_stage_none Left d w r k status is none of = of

pub never_own : (d d' : DeskNow) (s s' : StageNow) (served : Option Served) (left : Option Leave) → DoneTells d s d' s' served left → (r : Served) (status : ℕ) → own_seen s ≡ None → served ≡ Some r → r.kind ≡ kind.Own status → ⊥
never_own d d' s s' None left t r status none is own = never is
  where
    never : None ≡ Some r → ⊥
    never z = cc
never_own d d' s s' (Some q) None t r status none is own = own_stage_none s d cause.End q q.kind status (ap (λ (x : Served). x.kind) (one q r is) ∙ own) none t.1
  where
    one : (p x : Served) → Some p ≡ Some x → p ≡ x
    one p x z = cc
never_own d d' s s' (Some q) (Some l) t r status none is own = own_stage_none s d l.cause q q.kind status (ap (λ (x : Served). x.kind) (one q r is) ∙ own) none t.1
  where
    one : (p x : Served) → Some p ≡ Some x → p ≡ x
    one p x z = cc

-- an event of the server's side, by what it is
pub as_server : {X : Type 0} (d : DeskNow) (b : BusyNow) (net : NetState) (w v : CutCause) (status n : ℕ) (d' : DeskNow) (c : Came X) (net' : NetState) → w ≡ v → status ≡ n → EndsByServer d b net w status d' c net' → EndsByServer d b net v n d' c net'
as_server d b net w v status n d' c net' e f k = subst (λ (x : CutCause). EndsByServer d b net x n d' c net') e (subst (λ (x : ℕ). EndsByServer d b net w x d' c net') f k)

pub as_loss : {X : Type 0} (d : DeskNow) (b : BusyNow) (net : NetState) (w v : CutCause) (status n : ℕ) (d' : DeskNow) (c : Came X) (net' : NetState) → w ≡ v → status ≡ n → LosesServer d b net w status d' c net' → LosesServer d b net v n d' c net'
as_loss d b net w v status n d' c net' e f k = subst (λ (x : CutCause). LosesServer d b net x n d' c net') e (subst (λ (x : ℕ). LosesServer d b net w x d' c net') f k)
