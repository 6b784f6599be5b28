-- What becomes of a connection whose exchange passed.
use Rattle.std.specs.Prelude.{◌≡◌, ◌≢◌, ◌⊎◌, List, Option, Some, None, slice_get, slice_set}
use Rattle.hx_base.specs.declared.numbers.PlaceNo.{PlaceNo}
use Rattle.hx_base.specs.declared.numbers.SessionNo.{SessionNo}
use Rattle.hx_base.specs.declared.rules.Mode.TheVariants.{Never}
use Rattle.hx_conn.specs.Conns.{RestedNow, BusyNow, IsRested, IsBusy}
use Rattle.hx_conn.specs.Steps.{refusal, rested_of}
use Rattle.hx_conn.specs.declared.causes.RestCause.{RestCause}
use Rattle.hx_conn.specs.WhatTold.{shown}
use Rattle.hx_link.specs.Nets.{NetState, OnlyFaults}
use Rattle.hx_pool.specs.declared.refusals.NoPark.{NoPark}
use Rattle.hx_pool.specs.Opening.{HasConn}
use Rattle.hx_pool.specs.Parking.{CanPark, Parks, RefusesPark}
use Rattle.hx_pool.specs.SeatView.{History}
use Rattle.hx_connecting.specs.Connecting.{IsClosed}
use Rattle.hx_connecting.specs.Closing.{ClosesAt}

-- the session has it, and may park it where the server's connections are shared
pub record MaySettle (n : SessionNo) (r : RestedNow) (h : History) : Type 0 where
  pub has : HasConn h n r.id
  pub can : h.about.rules.mode ≢ Never → CanPark h n (shown r)

-- it rests at a place, or its park was refused, and it was closed; it comes back from a refused park as it is shown
abbrev pub Shared : History → History → SessionNo → RestedNow → NetState → NetState → Type 0
Shared old new n r net net' =
    ((place : PlaceNo) × Parks old new n place (shown r) × (net' ≡ net))
    ⊎ ((mid : History) × (why : NoPark) × (v : RestedNow) × RefusesPark old mid n (shown r) why
    × IsRested v × (shown v ≡ shown r) × IsClosed mid new n v.id net net' v.link)

-- the session keeps it where none is shared
abbrev pub SettlesAs : History → History → SessionNo → RestedNow → NetState → NetState → Option RestedNow → Type 0
SettlesAs old new n r net net' (Some q) = (old.about.rules.mode ≡ Never) × (q ≡ r) × (new ≡ old) × (net' ≡ net)
SettlesAs old new n r net net' None = (old.about.rules.mode ≢ Never) × Shared old new n r net net'

pub record Settles (olds news : List History) (n : SessionNo) (r : RestedNow) (net net' : NetState) (result : Option RestedNow) : Type 0 where
  pub old : History
  pub new : History
  pub was : slice_get olds r.server.0 ≡ Some old
  pub seats : news ≡ slice_set olds r.server.0 new
  pub settles : SettlesAs old new n r net net' result

-- it may rest, and settles; or it may not, for a cause, and is closed
abbrev pub RestsAs : List History → List History → SessionNo → BusyNow → NetState → NetState → Option RestedNow → Type 0
RestsAs olds news n b net net' result =
    ((between : NetState) × OnlyFaults net between × (refusal b ≡ None) × Settles olds news n (rested_of b) between net' result)
    ⊎ ((why : RestCause) × (refusal b ≡ Some why) × (result ≡ None) × ClosesAt olds news b.server.0 n b.id net net' b.link × IsBusy b)
