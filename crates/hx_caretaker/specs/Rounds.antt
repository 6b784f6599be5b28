-- The caretaker's round on one server (HAProxy 2.4 Configuration Manual, section 5.2: pool-purge-delay).
use Rattle.std.specs.Prelude.{◌≡◌, ◌≢◌, ◌⊎◌, ℕ, ◌-◌, ◌<◌, ◌≤◌, List, [], ◌∷◌}
use Rattle.hx_base.specs.declared.numbers.Millis.{Millis}
use Rattle.hx_pool.specs.declared.entries.Note.{Note}
use Rattle.hx_pool.specs.Purge.{round_at, round_raised, UsesQuota}
use Rattle.hx_pool.specs.SeatView.{History}
use Rattle.hx_pool.specs.Takeover.{counted}
use Rattle.hx_caretaker.specs.Sweeps.{Swept, Sweep, ClosesThem, Sweeps}

-- behind a Count as many are closed as the quota of so many intervals says, or fewer and each place was taken from or
-- had nothing to take
pub record PurgesQuota (h : History) (intervals : ℕ) (es : List Note) (swept : List Swept) : Type 0 where
  pub c : ℕ
  pub more : List Note
  pub counts : es ≡ counted h.about.thread c ∷ more
  pub closes : ClosesThem h more swept
  pub used : UsesQuota h.about c intervals more

-- behind the Round nothing is done where its interval isn't a new one, and else a purge
abbrev pub PurgesSince : History → ℕ → ℕ → List Note → List Swept → Type 0
PurgesSince h was is es swept =
    ((is ≤ was) × (es ≡ []) × (swept ≡ [])) ⊎ ((was < is) × PurgesQuota h (is - was) es swept)

-- a Round raises the interval to that of the moment
pub record RaisesRound (now : Millis) (h : History) (es : List Note) (swept : List Swept) : Type 0 where
  pub was : ℕ
  pub more : List Note
  pub raises : es ≡ round_raised h.about now was ∷ more
  pub purges : PurgesSince h was (round_at h.about now) more swept

-- a round at that moment: nothing where no purge is set
abbrev pub Ticks : Millis → History → List Note → List Swept → Type 0
Ticks now h es swept =
    ((h.about.rules.delay.0 ≡ 0) × (es ≡ []) × (swept ≡ []))
    ⊎ ((h.about.rules.delay.0 ≢ 0) × RaisesRound now h es swept)

-- the same at the seat of any server
abbrev pub TicksAt : Millis → ℕ → History → History → Sweep → Type 0
TicksAt now i old new x = Sweeps (Ticks now) old new x
