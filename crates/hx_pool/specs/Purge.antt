-- Purge intervals, and how many resting connections are closed after each
-- (HAProxy 2.4 Configuration Manual, section 5.2: pool-purge-delay).
use Rattle.std.specs.Prelude.{◌≡◌, ◌≢◌, ℕ, ◌+◌, ◌-◌, ◌*◌, ◌/◌, ◌^◌, min, ◌<◌, ◌≤◌, ◌⊎◌, false, List, [], ◌∷◌, ◌++◌}
use Rattle.hx_base.specs.declared.numbers.Millis.{Millis}
use Rattle.hx_base.specs.Shown.{Shown}
use Rattle.hx_pool.specs.declared.budget.Quota.{Quota}
use Rattle.hx_pool.specs.declared.entries.Entry.TheVariants.{Round}
use Rattle.hx_pool.specs.declared.entries.Note.{Note}
use Rattle.hx_pool.specs.History.{plain, takes_of}
use Rattle.hx_pool.specs.SeatView.{About, History, Calls}
use Rattle.hx_pool.specs.Causes.{AllLooks, IsUnavailable, IsCovered, AllCovered, place_of, nth_place, caretaker}
use Rattle.hx_pool.specs.Taking.{Takes}
use Rattle.hx_pool.specs.Takeover.{counted}

-- how many whole intervals have passed at a moment
abbrev pub round_at : About → Millis → ℕ
round_at a now = (now.0 - a.start.0) / a.rules.delay.0

-- how many of c are to be closed after so many intervals: each leaves half of the rest
abbrev pub quota_of : ℕ → ℕ → ℕ
quota_of c intervals = c - c / 2 ^ min intervals 63

-- the Round of a seat at this moment
abbrev pub round_raised : About → Millis → ℕ → Note
round_raised a now old = plain (Round a.thread (round_at a now) old)

-- due with a quota: the interval is a new one, and the quota is that of the Count
pub record GivesQuota (old new : History) (now : Millis) (q : Quota) : Type 0 where
  pub while_ : old.about.rules.delay.0 ≢ 0
  pub was : ℕ
  pub late : was < round_at old.about now
  pub c : ℕ
  pub makes : Calls old new (round_raised old.about now was ∷ counted old.about.thread c ∷ [])
  pub answer : q ≡ record { left = quota_of c (round_at old.about now - was); row = old.about.thread.0; place = 0; seen = 0 }

-- the interval is not a new one
pub record FindsNotDue (old new : History) (now : Millis) : Type 0 where
  pub was : ℕ
  pub early : round_at old.about now ≤ was
  pub makes : Calls old new (round_raised old.about now was ∷ [])

-- due with None
abbrev pub GivesNoQuota : History → History → Millis → Type 0
GivesNoQuota old new now = ((old.about.rules.delay.0 ≡ 0) × Calls old new [])
    ⊎ ((old.about.rules.delay.0 ≢ 0) × FindsNotDue old new now)

-- a quota names the next place, in the order of the seat's thread
pub record StandsAt (a : About) (q : Quota) : Type 0 where
  pub inside : q.seen ≤ 64 * a.threads
  pub at : q.seen < 64 * a.threads → place_of q.row q.place ≡ nth_place a.thread a.threads q.seen

-- the looks show nothing at every place from one on up to another
abbrev pub Passes : About → List Note → ℕ → ℕ → Type 0
Passes a looks from to = (i : ℕ) → from ≤ i → i < to → IsUnavailable a.thread looks (nth_place a.thread a.threads i)

-- purge_next with a value: it took from a place that the quota had not passed, so from each at most once
pub record PurgesOne (old new : History) (q r : Quota) (v : Shown) : Type 0 where
  pub left : q.left ≡ r.left + 1
  pub at : ℕ
  pub below : q.seen ≤ at
  pub inside : at < 64 * old.about.threads
  pub seen : r.seen ≡ at + 1
  pub stands : StandsAt old.about r
  pub takes : Takes old new [] caretaker false (nth_place old.about.thread old.about.threads at) v
  pub none : Passes old.about takes.looks q.seen at
  pub passed : new.passed ≡ old.passed

-- the quota has passed every place
pub record EndsPurge (old new : History) (q r : Quota) : Type 0 where
  pub left : r.left ≡ q.left
  pub seen : r.seen ≡ 64 * old.about.threads
  pub looks : List Note
  pub looked : AllLooks old.about.thread looks
  pub none : Passes old.about looks q.seen (64 * old.about.threads)
  pub makes : Calls old new looks

-- purge_next with None: nothing is left to close, or every place was passed
abbrev pub PurgesNone : History → History → Quota → Quota → Type 0
PurgesNone old new q r = ((q.left ≡ 0) × (r ≡ q) × Calls old new []) ⊎ ((q.left ≢ 0) × EndsPurge old new q r)

-- es are the entries of the calls under the quota, which came of a count c after so many intervals
pub record IsUnderQuota (a : About) (c intervals : ℕ) (q : Quota) (es : List Note) : Type 0 where
  pub stands : StandsAt a q
  pub left : takes_of es + q.left ≡ quota_of c intervals
  pub covered : (i : ℕ) → i < q.seen → IsCovered a.thread es (nth_place a.thread a.threads i)

-- as many takes as the quota says, or fewer and each place has a Take or is unavailable
abbrev pub UsesQuota : About → ℕ → ℕ → List Note → Type 0
UsesQuota a c intervals es = (takes_of es ≡ quota_of c intervals) ⊎ ((takes_of es < quota_of c intervals) × AllCovered a es)

-- what each call under a quota keeps
abbrev pub KeepsQuota : History → History → Quota → Quota → Type 0
KeepsQuota old new q r = (c intervals : ℕ) (es added : List Note) → new.mine ≡ old.mine ++ added
    → IsUnderQuota old.about c intervals q es → IsUnderQuota old.about c intervals r (es ++ added)
