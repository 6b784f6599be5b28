-- Taking from another thread's row (HAProxy 2.4 Configuration Manual, section 5.2: pool-low-conn).
use Rattle.std.specs.Prelude.{◌≡◌, ◌≢◌, ℕ, ◌<◌, ◌≤◌, Bool, true, false, List, [], ◌∷◌}
use Rattle.hx_base.specs.declared.numbers.ThreadNo.{ThreadNo}
use Rattle.hx_base.specs.declared.numbers.SessionNo.{SessionNo}
use Rattle.hx_base.specs.declared.numbers.PlaceNo.{PlaceNo}
use Rattle.hx_base.specs.Shown.{Shown}
use Rattle.hx_pool.specs.declared.entries.Entry.TheVariants.{Count}
use Rattle.hx_pool.specs.declared.entries.Note.{Note}
use Rattle.hx_pool.specs.declared.refusals.NoneOver.{NoneOver}
use Rattle.hx_pool.specs.declared.refusals.NoneOver.TheVariants.{NotAllowed, BelowLow, NoneSeen}
use Rattle.hx_pool.specs.History.{plain}
use Rattle.hx_pool.specs.Rules.{allows}
use Rattle.hx_pool.specs.SeatView.{History, Calls}
use Rattle.hx_pool.specs.Causes.{AllLooks, IsUnavailableTo, place_of}
use Rattle.hx_pool.specs.Taking.{Takes}

-- the Count of this thread
abbrev pub counted : ThreadNo → ℕ → Note
counted t c = plain (Count t c)

-- the mode allows a request some connection, or none
abbrev pub AllowsSome : History → Bool → Type 0
AllowsSome h first = (u : ℕ) × (allows h.about.rules.mode first u ≡ true)

-- the mode allows the request no connection
abbrev pub AllowsNone : History → Bool → Type 0
AllowsNone h first = (u : ℕ) → allows h.about.rules.mode first u ≡ false

-- each place of every other row has nothing for the request
abbrev pub OthersUnavailable : History → Bool → List Note → Type 0
OthersUnavailable h first es = (row p : ℕ) → row < h.about.threads → row ≢ h.about.thread.0 → p < 64
    → IsUnavailableTo (allows h.about.rules.mode first) h.about.thread es (place_of row p)

-- take_over with a value: the count is not below the least number, and the value was in another row
pub record TakesOver (old new : History) (n : SessionNo) (first : Bool) (v : Shown) : Type 0 where
  pub c : ℕ
  pub enough : old.about.rules.low ≤ c
  pub place : PlaceNo
  pub other : place.row ≢ old.about.thread.0
  pub takes : Takes old new (counted old.about.thread c ∷ []) n first place v
  pub passed : new.passed ≡ old.passed

-- the count is not below the least number, and nothing was found
pub record SeesNone (old new : History) (first : Bool) : Type 0 where
  pub c : ℕ
  pub enough : old.about.rules.low ≤ c
  pub looks : List Note
  pub looked : AllLooks old.about.thread looks
  pub none : OthersUnavailable old first looks
  pub makes : Calls old new (counted old.about.thread c ∷ looks)

-- take_over without a value: by its cause, in the order in which the causes are tested
abbrev pub RefusesTakeover : History → History → Bool → NoneOver → Type 0
RefusesTakeover old new first NotAllowed = AllowsNone old first × Calls old new []
RefusesTakeover old new first (BelowLow c) = AllowsSome old first × (c < old.about.rules.low) × Calls old new (counted old.about.thread c ∷ [])
RefusesTakeover old new first NoneSeen = AllowsSome old first × SeesNone old new first
