-- A connection for a request: what a step made at the chosen server's seat, and what it got (HAProxy 2.4 Configuration
-- Manual, sections 4.2 and 5.2).
use Rattle.std.specs.Prelude.{◌≡◌, ◌⊎◌, ℕ, Bool, true, false, [], Option, Some, None, option_map, Ok, Err}
use Rattle.hx_base.specs.declared.numbers.SessionNo.{SessionNo}
use Rattle.hx_base.specs.declared.numbers.ConnId.{ConnId}
use Rattle.hx_base.specs.declared.numbers.OutOfIds.{OutOfIds}
use Rattle.hx_base.specs.Shown.{Shown}
use Rattle.hx_message.specs.declared.MethodKind.{MethodKind}
use Rattle.hx_link.specs.Told.{LinkState, CountsOne}
use Rattle.hx_base.specs.declared.numbers.ServerNo.{ServerNo}
use Rattle.hx_link.specs.Courses.{after_dial}
use Rattle.hx_link.specs.Nets.{NetState, NetBuries, GainsTold, StaysTold, IsDialled, FollowsNext, HasNoNext, told_dial}
use Rattle.hx_conn.specs.Conns.{RestedNow, BusyNow, IsRested}
use Rattle.hx_conn.specs.Steps.{ProbesDead, ProbesOk, BeginsOk, BeginsDead}
use Rattle.hx_conn.specs.WhatTold.{shown}
use Rattle.hx_pool.specs.declared.refusals.NoneOver.{NoneOver}
use Rattle.hx_pool.specs.SeatView.{History, Calls}
use Rattle.hx_pool.specs.Opening.{Opens, Closes}
use Rattle.hx_pool.specs.Taking.{TakesOwn, TakesNoneOwn}
use Rattle.hx_pool.specs.Takeover.{TakesOver, RefusesTakeover, AllowsNone}
use Rattle.hx_connecting.specs.declared.connecting.Connected.{Connected}
use Rattle.hx_connecting.specs.declared.connecting.Connected.TheVariants.{Begun, Dead, Refused}

-- a connection that rested in the own row was taken, or where none was there for the request, one of another row
abbrev pub FindsOne : History → History → SessionNo → Bool → Shown → Type 0
FindsOne old new n first v =
    TakesOwn old new n first v
    ⊎ ((mid : History) × TakesNoneOwn old mid first × TakesOver mid new n first v)

-- the mode allows the request none, or none was in the own row and the takeover was refused
abbrev pub FindsNone : History → History → Bool → Type 0
FindsNone old new first =
    (AllowsNone old first × Calls old new [])
    ⊎ ((mid : History) × (why : NoneOver) × TakesNoneOwn old mid first × RefusesTakeover mid new first why)

abbrev pub Finds : History → History → SessionNo → Bool → Option RestedNow → Type 0
Finds old new n first (Some r) = FindsOne old new n first (shown r)
Finds old new n first None = FindsNone old new first

-- a connection that rested is dead: its link told its end, gave a byte or failed when it was probed, or the net failed to
-- attach it, and it was still good
abbrev pub Dies : RestedNow → ℕ → LinkState → NetState → NetState → Type 0
Dies r now link net_old net_new =
    ((why : ℕ) × ProbesDead r now link r.id why × (net_new ≡ net_old))
    ⊎ ((probed : RestedNow) × (why : ℕ) × ProbesOk r now probed × BeginsDead probed net_old net_new link r.id why)

-- the exchange begins on a connection that rested on when it was probed
abbrev pub BeginsProbed : RestedNow → ℕ → MethodKind → NetState → NetState → BusyNow → Type 0
BeginsProbed r now method net_old net_new b = (probed : RestedNow) × ProbesOk r now probed × BeginsOk probed method net_old net_new b

-- the connection is closed at the seat, and its link is buried
pub record IsClosed (old new : History) (n : SessionNo) (id : ConnId) (net_old net_new : NetState) (link : LinkState) : Type 0 where
  pub closes : Closes old new n id
  pub buries : NetBuries net_old net_new link

-- what came of a connection that rested
abbrev pub TriesRested : {X : Type 0} → History → History → SessionNo → RestedNow → ℕ → MethodKind → NetState → NetState → Connected X → Type 0
TriesRested old new n r now method net_old net_new (Begun busy fresh) =
    (new ≡ old) × (fresh ≡ false) × BeginsProbed r now method net_old net_new busy
TriesRested old new n r now method net_old net_new Dead =
    (net : NetState) × (link : LinkState) × Dies r now link net_old net × IsClosed old new n r.id net net_new link
TriesRested old new n r now method net_old net_new Refused = ⊥

-- a dial for a connection that was opened
pub record Dialled (server : ServerNo) (id : ConnId) (net_old net_new : NetState) (link : LinkState) : Type 0 where
  pub net : net_new ≡ record net_old { dials = net_new.dials; buried = net_new.buried; course = option_map (after_dial server) net_old.course }
  pub follows : FollowsNext server net_old.course link
  pub dials : GainsTold (told_dial server id true link.tag) net_old.dials net_new.dials
  pub buried : StaysTold net_old.buried net_new.buried
  pub fresh : IsDialled server id link

abbrev pub first_rested : LinkState → ConnId → ServerNo → RestedNow
first_rested link id server = record { link = link; id = id; server = server; uses = 0 }

-- a dial that failed
pub record FailsDial (server : ServerNo) (id : ConnId) (net_old net_new : NetState) : Type 0 where
  pub net : net_new ≡ record net_old {
    faults = net_new.faults;
    dials = net_new.dials;
    buried = net_new.buried;
    course = option_map (after_dial server) net_old.course;
  }
  pub none : HasNoNext server net_old.course net_new
  pub dials : GainsTold (told_dial server id false None) net_old.dials net_new.dials
  pub buried : StaysTold net_old.buried net_new.buried
  pub fault : CountsOne net_old.faults net_new.faults

-- a connection was opened and dialled, and the exchange begins on it
pub record OpensOne (old new : History) (n : SessionNo) (server : ServerNo) (method : MethodKind) (net_old net_new : NetState) (b : BusyNow) : Type 0 where
  pub id : ConnId
  pub opens : Opens old new n (Ok id)
  pub link : LinkState
  pub net : NetState
  pub dialled : Dialled server id net_old net link
  pub begins : BeginsOk (first_rested link id server) method net net_new b

-- no number was left, or the net failed to dial or to attach the connection that was opened, which is closed
abbrev pub OpensNone : History → History → SessionNo → ServerNo → NetState → NetState → Type 0
OpensNone old new n server net_old net_new =
    ((e : OutOfIds) × Opens old new n (Err e) × (net_new ≡ net_old))
    ⊎ ((mid : History) × (id : ConnId) × Opens old mid n (Ok id)
    × ((Closes mid new n id × FailsDial server id net_old net_new)
    ⊎ ((link : LinkState) × (net : NetState) × (after : NetState) × (why : ℕ) × Dialled server id net_old net link
    × BeginsDead (first_rested link id server) net after link id why × IsClosed mid new n id after net_new link)))

abbrev pub TriesNew : {X : Type 0} → History → History → SessionNo → ServerNo → MethodKind → NetState → NetState → Connected X → Type 0
TriesNew old new n server method net_old net_new (Begun busy fresh) = (fresh ≡ true) × OpensOne old new n server method net_old net_new busy
TriesNew old new n server method net_old net_new Dead = ⊥
TriesNew old new n server method net_old net_new Refused = OpensNone old new n server net_old net_new

-- a request goes over a connection that rested, else over a new one
abbrev pub Connects : {X : Type 0} → History → History → SessionNo → Bool → ServerNo → ℕ → MethodKind → NetState → NetState → Connected X → Type 0
Connects old new n first server now method net_old net_new c =
    ((mid : History) × (r : RestedNow) × Finds old mid n first (Some r) × IsRested r × TriesRested mid new n r now method net_old net_new c)
    ⊎ ((mid : History) × Finds old mid n first None × TriesNew mid new n server method net_old net_new c)

-- for a session that holds a connection which rests, or none
abbrev pub TriesFor : {X : Type 0} → History → History → SessionNo → Bool → ServerNo → ℕ → MethodKind → NetState → NetState → Option RestedNow → Connected X → Type 0
TriesFor old new n first server now method net_old net_new (Some r) c =
    IsRested r × TriesRested old new n r now method net_old net_new c
TriesFor old new n first server now method net_old net_new None c = Connects old new n first server now method net_old net_new c
