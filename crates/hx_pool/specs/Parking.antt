-- What park asks, what it does, and when it refuses.
use Rattle.std.specs.Prelude.{◌≡◌, ◌≢◌, ℕ, ◌-◌, ◌<◌, ◌≤◌, ◌⊎◌, true, false, List, [], ◌∷◌, ◌++◌, Some, IfSome}
use Rattle.hx_base.specs.declared.numbers.ThreadNo.{ThreadNo}
use Rattle.hx_base.specs.declared.numbers.SessionNo.{SessionNo}
use Rattle.hx_base.specs.declared.numbers.PlaceNo.{PlaceNo}
use Rattle.hx_base.specs.declared.numbers.Face.{Face}
use Rattle.hx_base.specs.declared.rules.PoolRules.{PoolRules}
use Rattle.hx_base.specs.declared.rules.Mode.TheVariants as mode
use Rattle.hx_base.specs.Shown.{Shown}
use Rattle.hx_pool.specs.declared.entries.Found.{Found}
use Rattle.hx_pool.specs.declared.entries.Found.TheVariants.{Empty, Resting}
use Rattle.hx_pool.specs.declared.entries.Entry.TheVariants.{Park, Look, Up, Down, Gate}
use Rattle.hx_pool.specs.declared.entries.Note.{Note}
use Rattle.hx_pool.specs.declared.refusals.NoPark.{NoPark}
use Rattle.hx_pool.specs.declared.refusals.NoPark.TheVariants.{Never, NoneKept, RowFull, Draining, PoolFull}
use Rattle.hx_pool.specs.Table.{IsInRow}
use Rattle.hx_pool.specs.History.{plain}
use Rattle.hx_pool.specs.Held.{Has}
use Rattle.hx_pool.specs.SeatView.{History, Calls}
use Rattle.hx_pool.specs.Causes.{Among, AllLooks, LooksOnly, ShowsTaken, place_of}
use Rattle.hx_pool.specs.Taking.{taking}

-- the session has the value's connection, which now has one more use, and it is one to the seat's server
pub record CanPark (h : History) (n : SessionNo) (v : Shown) : Type 0 where
  pub session : n.0 ≢ 0
  pub server : v.server ≡ h.about.server
  pub has : Has h.mine n v.face.id.0 (v.face.uses - 1)
  pub used : 1 ≤ v.face.uses

-- the rules keep a connection at all
pub record KeepsSome (rules : PoolRules) : Type 0 where
  pub some : rules.max ≢ Some 0
  pub while_ : rules.delay.0 ≢ 0

-- a place of the thread's row that a look showed vacant, each one below it being taken
pub record FindsVacant (t : ThreadNo) (looks : List Note) (place : PlaceNo) : Type 0 where
  pub row : place.row ≡ t.0
  pub inside : IsInRow place
  pub below : (p : ℕ) → p < place.place → ShowsTaken t looks (place_of place.row p)
  pub vacant : Among (λ e. e ≡ Look t place Empty) looks

-- the Park of this value
abbrev pub parked : ThreadNo → SessionNo → PlaceNo → Shown → Note
parked t n place v = record { entry = Park t n v.face.id place v.face.uses; what = Some v.what }

-- looks, then a Gate that shows ready, then these
abbrev pub gated : ThreadNo → List Note → List Note → List Note
gated t looks more = looks ++ plain (Gate t false) ∷ more

-- after the Park the server is ready, or it drains and another had taken the value
abbrev pub Settles : ThreadNo → PlaceNo → Face → List Note → Type 0
Settles t place f tail = (tail ≡ plain (Gate t false) ∷ [])
    ⊎ ((found : Found) × (found ≢ Resting f) × (tail ≡ plain (Gate t true) ∷ plain (Look t place found) ∷ []))

-- Ok: one Park at the first vacant place, after a Gate that shows ready and an Up below the greatest number
pub record Parks (old new : History) (n : SessionNo) (place : PlaceNo) (v : Shown) : Type 0 where
  pub mode : old.about.rules.mode ≢ mode.Never
  pub keeps : KeepsSome old.about.rules
  pub looks : List Note
  pub count : ℕ
  pub tail : List Note
  pub looked : AllLooks old.about.thread looks
  pub found : FindsVacant old.about.thread looks place
  pub limit : IfSome old.about.rules.max (λ m. count < m)
  pub settles : Settles old.about.thread place v.face tail
  pub makes : Calls old new (gated old.about.thread looks (plain (Up old.about.thread count) ∷ parked old.about.thread n place v ∷ tail))

-- each of the thread's 64 places was looked at and is taken
pub record FindsRowFull (old new : History) : Type 0 where
  pub looks : LooksOnly old new
  pub passed : new.passed ≡ old.passed
  pub taken : (p : ℕ) → p < 64 → ShowsTaken old.about.thread looks.looks (place_of old.about.thread.0 p)

-- the Gate before the Up shows draining
pub record FindsDraining (old new : History) : Type 0 where
  pub looks : List Note
  pub place : PlaceNo
  pub looked : AllLooks old.about.thread looks
  pub found : FindsVacant old.about.thread looks place
  pub makes : Calls old new (looks ++ plain (Gate old.about.thread true) ∷ [])

-- the value was parked as above, then the Gate shows draining, and the call took it back
pub record TakesBack (old new : History) (n : SessionNo) (v : Shown) : Type 0 where
  pub looks : List Note
  pub place : PlaceNo
  pub count : ℕ
  pub down : ℕ
  pub looked : AllLooks old.about.thread looks
  pub found : FindsVacant old.about.thread looks place
  pub limit : IfSome old.about.rules.max (λ m. count < m)
  pub makes : Calls old new (gated old.about.thread looks (plain (Up old.about.thread count) ∷ parked old.about.thread n place v ∷ plain (Gate old.about.thread true) ∷ taking old.about.thread n false place v.face down))

-- the Up shows the greatest number or more
pub record FindsPoolFull (old new : History) (c : ℕ) : Type 0 where
  pub looks : List Note
  pub place : PlaceNo
  pub down : ℕ
  pub looked : AllLooks old.about.thread looks
  pub found : FindsVacant old.about.thread looks place
  pub limit : (m : ℕ) × (old.about.rules.max ≡ Some m) × (m ≤ c)
  pub makes : Calls old new (gated old.about.thread looks (plain (Up old.about.thread c) ∷ plain (Down old.about.thread down) ∷ []))

-- Err: by its cause, in the order in which the causes are tested
abbrev pub RefusesPark : History → History → SessionNo → Shown → NoPark → Type 0
RefusesPark old new n v Never = (old.about.rules.mode ≡ mode.Never) × Calls old new []
RefusesPark old new n v NoneKept = (old.about.rules.mode ≢ mode.Never) × ((old.about.rules.max ≡ Some 0) ⊎ (old.about.rules.delay.0 ≡ 0)) × Calls old new []
RefusesPark old new n v RowFull = (old.about.rules.mode ≢ mode.Never) × KeepsSome old.about.rules × FindsRowFull old new
RefusesPark old new n v Draining = (old.about.rules.mode ≢ mode.Never) × KeepsSome old.about.rules × (FindsDraining old new ⊎ TakesBack old new n v)
RefusesPark old new n v (PoolFull c) = (old.about.rules.mode ≢ mode.Never) × KeepsSome old.about.rules × FindsPoolFull old new c
