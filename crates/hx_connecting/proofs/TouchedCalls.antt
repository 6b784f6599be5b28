-- The way of a connection that is closed, parked or kept, at its own seat.
use Rattle.std.proofs.Common.{◌≡◌, ◌∙◌, ◌+◌, List, [], ◌∷◌, ◌++◌, refl, sym, ap, subst, inl, inr, arith, Option, Some, None}
use Rattle.std.specs.Prelude.{Contains, IfSome}
use Rattle.hx_base.specs.declared.numbers.ThreadNo.{ThreadNo}
use Rattle.hx_base.specs.declared.numbers.SessionNo.{SessionNo}
use Rattle.hx_base.specs.declared.numbers.ServerNo.{ServerNo}
use Rattle.hx_base.specs.declared.numbers.ConnId.{ConnId}
use Rattle.hx_base.specs.declared.numbers.PlaceNo.{PlaceNo}
use Rattle.hx_base.specs.declared.what.What.{What}
use Rattle.hx_link.specs.Told.{LinkState, IsCounted}
use Rattle.hx_link.specs.Nets.{NetState, NetDetaches, NetBuries, TellsDial}
use Rattle.hx_conn.specs.Conns.{RestedNow, BusyNow, IsRested, IsBusy}
use Rattle.hx_conn.specs.Steps.{rested_of}
use Rattle.hx_conn.specs.WhatTold.{what_of_link}
use Rattle.hx_pool.specs.declared.entries.Entry.TheVariants.{Park}
use Rattle.hx_pool.specs.declared.entries.Note.{Note}
use Rattle.hx_pool.specs.SeatView.{History}
use Rattle.hx_record.specs.declared.served.Carried.{Carried}
use Rattle.hx_record.specs.declared.served.Kind.TheVariants as kind
use Rattle.hx_record.specs.declared.served.Served.{Served}
use Rattle.hx_connecting.specs.Exchanges.{IsClosed, PassedEnds}
use Rattle.hx_connecting.specs.Links.{IsSameLink}
use Rattle.hx_connecting.specs.Sessions.{SessionNow, Holding, Resting, Exchanging, conn_link, conn_server, conn_id}
use Rattle.hx_connecting.specs.Touches.{Touch, Went, Stays, Rests, Ends, EndsTakenBack}
use Rattle.hx_connecting.specs.Ways.{NetStays, FitsRecord, stays_of, told_by, ConnStays, WayOf}
use Rattle.hx_base.specs.declared.rules.Mode.TheVariants.{Never}
use Rattle.hx_pool.specs.History.{marks_of}
use Rattle.hx_pool.specs.Wants.{ClosesForCause, EndsRefused}
use Rattle.hx_record.specs.declared.served.CutCause.{CutCause}
use Rattle.hx_record.specs.declared.served.Left.{Left}
use Rattle.hx_connecting.specs.Closings.{ClosesFor, call_of, broken_off, never_shared, not_reusable}
use Rattle.hx_connecting.specs.Outcomes.{Outcome, Deciding, Leaving, ComesOut, HasCause, CloseNone}
use Rattle.hx_connecting.proofs.CauseLemmas.{Causes, causes_always, causes_behind, causes_last}
use Rattle.hx_connecting.proofs.AddedCalls.{had}
use Rattle.hx_connecting.proofs.NetLemmas.{NetEnds, net_faults, net_buries, ends_after}
use Rattle.hx_connecting.proofs.WayLemmas.{detaches_same}
use Rattle.hx_connecting.proofs.WayStays.{closed_ends}

-- a record of a connection that is closed
closed_fits : (s : SessionNow) (x : Touch) (before after : Option What) (served : Option Served) → IsClosed x.went → IfSome served (λ r. told_by after ≡ told_by before)
    → IfSome served (λ r. FitsRecord s x before after r)
closed_fits s x before after None closed told = tt
closed_fits s x before after (Some r) closed told = record { ends = closed_ends s x after r.kind closed; told = told }

-- no byte is moved with a record that is given
pub told_if : {A : Type 0} (served : Option A) {P : Type 0} → P → IfSome served (λ r. P)
told_if None p = tt
told_if (Some r) p = p

pub detached_told : (a b : LinkState) → b ≡ record a { on_loop = None } → (what_of_link b).told ≡ (what_of_link a).told
detached_told a b e = ap (λ (l : LinkState). (what_of_link l).told) e

-- a closing of a connection that the session had has a cause
abbrev pub CauseOf : SessionNo → Holding → Outcome → NetState → NetState → History → List Note → Touch → What → Option Served → Type 0
CauseOf n c z old new h es x w served = (s s' : SessionNow) → s.conn ≡ Some c → HasCause n z s s' h es old new x (Some (what_of_link (conn_link c))) (Some w) served

-- the same of one that carries an exchange, whatever stands in front of its Close, where its link tells what it told
abbrev pub CauseAt : SessionNo → BusyNow → Outcome → NetState → NetState → Option Served → Type 0
CauseAt n b z old new served =
    (s s' : SessionNow) (h : History) (front : List Note) (x : Touch) (w : What) (left : Option Left) → s.conn ≡ Some (Exchanging b) → x.server ≡ b.server → x.id ≡ b.id → s.number ≡ n
    → w.told ≡ (what_of_link b.link).told → ComesOut z s' left → ClosesFor (call_of s s' old new h front x (Some (what_of_link b.link)) (Some w) served left)

-- the exchange is broken off: its cut is told, or an own answer is decided for it
abbrev pub BreaksOff : BusyNow → Outcome → Option Served → Type 0
BreaksOff b z None = z ≡ Deciding
BreaksOff b z (Some r) = (p : Carried) × (why : CutCause) × (r.kind ≡ kind.Cut p why) × (p.server ≡ b.server) × (p.id ≡ b.id)

pub broken_cause : (n : SessionNo) (b : BusyNow) (z : Outcome) (old new : NetState) (served : Option Served) → BreaksOff b z served → CauseAt n b z old new served
broken_cause n b z old new None k = λ s s' h front x w left was server id number told comes.
    broken_off (record { exchange = b; was = was; ends = inr (subst (λ (o : Outcome). ComesOut o s' left) k comes) })
broken_cause n b z old new (Some r) k = λ s s' h front x w left was server id number told comes.
    broken_off (record { exchange = b; was = was; ends = inl (r, refl, inl (k.0, k.1, k.2, k.3 ∙ sym server, k.4 ∙ sym id)) })

cause_at : (n : SessionNo) (b : BusyNow) (z : Outcome) (l : LinkState) (h : History) (es : List Note) (old new : NetState) (served : Option Served) → (what_of_link l).told ≡ (what_of_link b.link).told
    → CauseAt n b z old new served → CauseOf n (Exchanging b) z old new h es (had b.server b.id Ends) (what_of_link l) served
cause_at n b z l h es old new served told cause = λ s s' was closed left number comes.
    causes_always (λ m id front. ClosesFor (call_of s s' old new h front (had b.server b.id Ends) (Some (what_of_link b.link)) (Some (what_of_link l)) served left))
    (λ m id front. cause s s' h front (had b.server b.id Ends) (what_of_link l) left was refl refl number told comes) [] es

-- a connection that the session had is closed, as it was when the exchange was over with it
pub ends_way : (t : ThreadNo) (n : SessionNo) (c : Holding) (z : Outcome) (l : LinkState) (h : History) (es : List Note) (old new : NetState) (served : Option Served) → IsSameLink (what_of_link (conn_link c)) (what_of_link l)
    → TellsDial (conn_server c) (conn_id c) l → NetEnds old new l → ((s : SessionNow) → s.conn ≡ Some c → IfSome served (λ r. (what_of_link l).told ≡ (what_of_link (conn_link c)).told))
    → CauseOf n c z old new h es (had (conn_server c) (conn_id c) Ends) (what_of_link l) served → WayOf t n (Some c) None z h es old new (had (conn_server c) (conn_id c) Ends) served
ends_way t n c z l h es old new served same dial net told causes = λ s s' was is by named. (
  record {
    before = Some (what_of_link (conn_link c));
    after = Some (what_of_link l);
    gone = Some l;
    was = (c, (was, refl, refl), refl);
    is = (is, (dial, refl));
    same = same;
    dials = (net.dials, net.course);
    buries = net.buries;
  },
  tt,
  closed_fits s (had (conn_server c) (conn_id c) Ends) (Some (what_of_link (conn_link c))) (Some (what_of_link l)) served tt (told s was),
  causes s s' was,
)

-- an exchange under way, whose link was buried as it stood but for its loop
pub busy_way : (t : ThreadNo) (n : SessionNo) (b : BusyNow) (z : Outcome) (h : History) (es : List Note) (old mid new : NetState) (l : LinkState) (served : Option Served) → IsBusy b → NetDetaches old mid b.link l → NetBuries mid new l
    → CauseAt n b z old new served → WayOf t n (Some (Exchanging b)) None z h es old new (had b.server b.id Ends) served
busy_way t n b z h es old mid new l served meaning detaches buries cause =
    ends_way t n (Exchanging b) z l h es old new served (detaches_same old mid b.link l detaches) (subst (λ (x : LinkState). TellsDial b.server b.id x) (sym detaches.1) meaning.dial)
    (ends_after old mid new l (net_faults old mid detaches.0) (net_buries mid new l buries)) (λ s was. told_if served (detached_told b.link l detaches.1))
    (cause_at n b z l h es old new served (detached_told b.link l detaches.1) cause)

fits_told : (s : SessionNow) (x : Touch) (a b : What) (served : Option Served) → IfSome served (λ r. FitsRecord s x (Some a) (Some b) r) → IfSome served (λ r. b.told ≡ a.told)
fits_told s x a b None f = tt
fits_told s x a b (Some r) f = f.told

at_session : (s : SessionNow) (c k : Holding) (served : Option Served)
    → IfSome served (λ r. (s : SessionNow) → s.conn ≡ Some c → FitsRecord s (stays_of c) (Some (what_of_link (conn_link c))) (Some (what_of_link (conn_link k))) r) → s.conn ≡ Some c
    → IfSome served (λ r. FitsRecord s (stays_of c) (Some (what_of_link (conn_link c))) (Some (what_of_link (conn_link k))) r)
at_session s c k None f was = tt
at_session s c k (Some r) f was = f s was

-- what rests with the session is closed, behind a call with which it stayed
pub held_way : (t : ThreadNo) (n : SessionNo) (c : Holding) (r : RestedNow) (h : History) (es : List Note) (old new : NetState) (served : Option Served) → h.about.rules.mode ≡ Never → ConnStays c (Resting r) served → IsRested r
    → NetEnds old new r.link → WayOf t n (Some c) None Leaving h es old new (had (conn_server c) (conn_id c) Ends) served
held_way t n c r h es old new served never stays meaning net =
    ends_way t n c Leaving r.link h es old new served stays.link
    (subst (λ (v : ServerNo). TellsDial v (conn_id c) r.link) stays.server (subst (λ (i : ConnId). TellsDial r.server i r.link) stays.id meaning.dial)) net
    (λ s was. fits_told s (stays_of c) (what_of_link (conn_link c)) (what_of_link r.link) served (at_session s c (Resting r) served stays.fits was))
    (λ s s' was closed left number comes.
    causes_always (λ m id front. ClosesFor (call_of s s' old new h front (had (conn_server c) (conn_id c) Ends) (Some (what_of_link (conn_link c))) (Some (what_of_link r.link)) served left))
    (λ m id front. never_shared never comes) [] es)

-- a connection whose exchange passed, and what its record says
abbrev pub IsPassed : Option Served → Type 0
IsPassed served = (r : Served) × (c : Carried) × (served ≡ Some r) × (r.kind ≡ kind.Passed c)

-- all that moved over it is in exchanges
abbrev pub EndsFor : BusyNow → Option Served → Type 0
EndsFor b served = IfSome served (λ r. (s : SessionNow) (x : Touch) → s.conn ≡ Some (Exchanging b) → PassedEnds s x (Some (what_of_link (rested_of b).link)) r.kind)

rested_same : (b : BusyNow) → IsSameLink (what_of_link b.link) (what_of_link (rested_of b).link)
rested_same b = detaches_same none none b.link (record b.link { on_loop = None }) ((refl, omega arith), refl)
  where
    none : NetState
    none = record { faults = 0; loop_no = 0; dials = None; buried = None; course = None }

stays_fit : (b : BusyNow) (served : Option Served) → EndsFor b served
    → IfSome served (λ r. (s : SessionNow) → s.conn ≡ Some (Exchanging b) → FitsRecord s (stays_of (Exchanging b)) (Some (what_of_link b.link)) (Some (what_of_link (rested_of b).link)) r)
stays_fit b None ends = tt
stays_fit b (Some r) ends = λ s was. record { ends = ends s (stays_of (Exchanging b)) was; told = refl }

parks_fit : (s : SessionNow) (x : Touch) (b : BusyNow) (served : Option Served) → EndsFor b served → s.conn ≡ Some (Exchanging b)
    → IfSome served (λ r. FitsRecord s x (Some (what_of_link b.link)) (Some (what_of_link (rested_of b).link)) r)
parks_fit s x b None ends was = tt
parks_fit s x b (Some r) ends was = record { ends = ends s x was; told = refl }

-- it stays with the session
pub kept_stays : (b : BusyNow) (served : Option Served) → IsPassed served → EndsFor b served → IsCounted b.link → ConnStays (Exchanging b) (Resting (rested_of b)) served
kept_stays b served passed ends counted = record { server = refl; id = refl; link = rested_same b; goes = (refl, passed, record { taken = counted.taken; sent = counted.sent }); fits = stays_fit b served ends }

-- it is parked
pub parked_way : (t : ThreadNo) (n : SessionNo) (b : BusyNow) (z : Outcome) (h : History) (es : List Note) (old new : NetState) (place : PlaceNo) (served : Option Served) → IsPassed served → EndsFor b served → NetStays old new
    → Contains es (record { entry = Park t n b.id place (b.uses + 1); what = Some (what_of_link (rested_of b).link) })
    → WayOf t n (Some (Exchanging b)) None z h es old new (had b.server b.id (Rests place (b.uses + 1))) served
parked_way t n b z h es old new place served passed ends net there = λ s s' was is by named. (
  record {
    before = Some (what_of_link b.link);
    after = Some (what_of_link (rested_of b).link);
    gone = None;
    was = (Exchanging b, (was, refl, refl), refl);
    is = (
      refl,
      is,
      (
        what_of_link (rested_of b).link,
        refl,
        subst (λ (u : ThreadNo). Contains es (record { entry = Park u s'.number b.id place (b.uses + 1); what = Some (what_of_link (rested_of b).link) })) (sym by)
            (subst (λ (m : SessionNo). Contains es (record { entry = Park t m b.id place (b.uses + 1); what = Some (what_of_link (rested_of b).link) })) (sym named) there),
      ),
    );
    same = rested_same b;
    dials = (net.dials, net.course);
    buries = net.buries;
  },
  (b, was, refl, refl, passed),
  parks_fit s (had b.server b.id (Rests place (b.uses + 1))) b served ends was,
  λ closed. absurd closed,
)

-- its park was refused, and it is closed
-- a park that was refused is the cause
refused_cause : (n : SessionNo) (b : BusyNow) (z : Outcome) (w : What) (went : Went) (h : History) (es front : List Note) (last : Note) (old new : NetState) (served : Option Served) → IsPassed served
    → es ≡ front ++ last ∷ [] → CloseNone (marks_of front) → EndsRefused h n b.id front → CauseOf n (Exchanging b) z old new h es (had b.server b.id went) w served
refused_cause n b z w went h es front last old new served passed is none refused = λ s s' was closed left number comes.
    let P : Causes = λ m id q. ClosesFor (call_of s s' old new h q (had b.server b.id went) (Some (what_of_link b.link)) (Some w) served left) in
    let here = not_reusable b passed.1 was (passed.0, passed.2, passed.3) (inr (inr (inr (subst (λ (m : SessionNo). EndsRefused h m b.id front) (sym number) refused)))) in
    subst (λ (l : List Note). ClosesForCause P [] l) (sym is) (causes_behind P [] front (last ∷ []) none (causes_last P front last (λ m id. here)))

pub refused_way : (t : ThreadNo) (n : SessionNo) (b : BusyNow) (z : Outcome) (l : LinkState) (went : Went) (h : History) (es : List Note) (old new : NetState) (served : Option Served) → IsClosed went
    → what_of_link l ≡ what_of_link (rested_of b).link → TellsDial b.server b.id l → NetEnds old new l → IsPassed served → (front : List Note) (last : Note) → es ≡ front ++ last ∷ [] → CloseNone (marks_of front)
    → EndsRefused h n b.id front → WayOf t n (Some (Exchanging b)) None z h es old new (had b.server b.id went) served
refused_way t n b z l Stays h es old new served closed what dial net passed front last is none refused = absurd closed
refused_way t n b z l (Rests place uses) h es old new served closed what dial net passed front last is none refused = absurd closed
refused_way t n b z l Ends h es old new served closed what dial net passed front last entries none refused =
    ends_way t n (Exchanging b) z l h es old new served (subst (λ (w : What). IsSameLink (what_of_link b.link) w) (sym what) (rested_same b)) dial net (λ s was. told_if served (ap (λ (w : What). w.told) what))
    (refused_cause n b z (what_of_link l) Ends h es front last old new served passed entries none refused)
refused_way t n b z l (EndsTakenBack place uses) h es old new served closed what dial net passed front last entries none refused = λ s s' was is by named. (
  record {
    before = Some (what_of_link b.link);
    after = Some (what_of_link l);
    gone = Some l;
    was = (Exchanging b, (was, refl, refl), refl);
    is = (is, (dial, refl));
    same = subst (λ (w : What). IsSameLink (what_of_link b.link) w) (sym what) (rested_same b);
    dials = (net.dials, net.course);
    buries = net.buries;
  },
  refl,
  closed_fits s (had b.server b.id (EndsTakenBack place uses)) (Some (what_of_link b.link)) (Some (what_of_link l)) served tt (told_if served (ap (λ (w : What). w.told) what)),
  refused_cause n b z (what_of_link l) (EndsTakenBack place uses) h es front last old new served passed entries none refused s s' was,
)
