-- Several steps of one seat, and what a row does by them.
use Rattle.std.specs.Prelude.{◌≡◌, ◌≢◌, ℕ, ◌<◌, ◌≤◌, Bool, true, false, List, [], ◌∷◌, ◌++◌, length, Some, IfSome}
use Rattle.hx_base.specs.declared.numbers.SessionNo.{SessionNo}
use Rattle.hx_base.specs.declared.numbers.PlaceNo.{PlaceNo}
use Rattle.hx_base.specs.declared.numbers.Face.{Face}
use Rattle.hx_base.specs.PlaceWords.{IsFace}
use Rattle.hx_base.specs.Shown.{Shown}
use Rattle.hx_pool.specs.declared.entries.Found.{Found}
use Rattle.hx_pool.specs.declared.entries.Found.TheVariants.{Resting}
use Rattle.hx_pool.specs.declared.entries.Entry.TheVariants.{Look, Up, Down, Gate}
use Rattle.hx_pool.specs.declared.entries.Note.{Note}
use Rattle.hx_pool.specs.declared.refusals.NoPark.{NoPark}
use Rattle.hx_pool.specs.declared.refusals.NoPark.TheVariants.{RowFull, Draining, PoolFull}
use Rattle.hx_pool.specs.Table.{Holds, spot_at, spot_no}
use Rattle.hx_pool.specs.History.{plain, own_of, table_after}
use Rattle.hx_pool.specs.Causes.{AllLooks, ShowsTaken, place_of}
use Rattle.hx_pool.specs.Taking.{taken, taking}
use Rattle.hx_pool.specs.Parking.{FindsVacant, parked, gated}
use Rattle.hx_places.specs.declared.view.Hand.TheVariants.{Idle}
use Rattle.hx_places.specs.Turns.{first_turn, WentUp, AtEase, IsBelow}
use Rattle.hx_places.specs.Known.{WasVacant}
use Rattle.hx_places.specs.Views.{WasThere}
use Rattle.hx_places.specs.Asks.{Admitted, admission_of}
use Rattle.hx_places.specs.Seats.{PlaceView, Stands, turn, IsOwn}
use Rattle.hx_rows.specs.declared.steps.Outcome.{Outcome}
use Rattle.hx_rows.specs.declared.steps.Outcome.TheVariants.{Stays, IsTaken, Back}

-- the steps made these entries and no others of the thread, and its hand is as before
pub record Steps (old new : PlaceView) (added : List Note) : Type 0 where
  pub board : new.board ≡ old.board
  pub terms : new.view.terms ≡ old.view.terms
  pub thread : new.view.thread ≡ old.view.thread
  pub hand : new.view.hand ≡ old.view.hand
  pub mine : new.view.mine ≡ old.view.mine ++ added
  pub between : List Note
  pub seen : new.view.seen ≡ old.view.seen ++ between
  pub was : Stands old.view
  pub one : Stands new.view

-- nothing is under way: no claim, no Up without its Park or Down, no Take without its Down, no Gate after a Park
pub record IsAtRest (s : PlaceView) : Type 0 where
  pub turn_is : turn s ≡ first_turn
  pub idle : s.view.hand ≡ Idle

-- the first k places of the own row were looked at, and are taken
pub record Scans (old new : PlaceView) (k : ℕ) : Type 0 where
  pub looks : List Note
  pub looked : AllLooks old.view.thread looks
  pub steps : Steps old new looks
  pub taken : (p : ℕ) → p < k → ShowsTaken old.view.thread looks (place_of old.view.thread.0 p)
  pub few : length looks ≤ k

-- the least own place that a look shows vacant
pub record Finds (old new : PlaceView) (place : PlaceNo) : Type 0 where
  pub looks : List Note
  pub looked : AllLooks old.view.thread looks
  pub steps : Steps old new looks
  pub found : FindsVacant old.view.thread looks place
  pub few : length looks ≤ 64
  pub vacant : WasVacant new.view.mine place

-- the place is vacant, the server takes connections, and the count went up from below the greatest number
pub record Admits (old new : PlaceView) (place : PlaceNo) : Type 0 where
  pub looks : List Note
  pub count : ℕ
  pub looked : AllLooks old.view.thread looks
  pub found : FindsVacant old.view.thread looks place
  pub few : length looks ≤ 64
  pub limit : IfSome old.view.terms.rules.max (λ m. count < m)
  pub steps : Steps old new (gated old.view.thread looks (plain (Up old.view.thread count) ∷ []))
  pub vacant : WasVacant new.view.mine place
  pub turn_is : turn new ≡ record { due = WentUp count; call = AtEase }

-- a place is vacant, and the server drains
pub record IsShut (old new : PlaceView) : Type 0 where
  pub looks : List Note
  pub place : PlaceNo
  pub looked : AllLooks old.view.thread looks
  pub found : FindsVacant old.view.thread looks place
  pub few : length looks ≤ 64
  pub steps : Steps old new (looks ++ plain (Gate old.view.thread true) ∷ [])

-- a place is vacant, and as many rest as may, so that the count went up and down again
pub record IsOverMax (old new : PlaceView) (c : ℕ) : Type 0 where
  pub looks : List Note
  pub place : PlaceNo
  pub down : ℕ
  pub looked : AllLooks old.view.thread looks
  pub found : FindsVacant old.view.thread looks place
  pub few : length looks ≤ 64
  pub limit : (m : ℕ) × (old.view.terms.rules.max ≡ Some m) × (m ≤ c)
  pub steps : Steps old new
      (gated old.view.thread looks (plain (Up old.view.thread c) ∷ plain (Down old.view.thread down) ∷ []))

-- nothing may be put into the row, and why
abbrev pub Refuses : PlaceView → PlaceView → NoPark → Type 0
Refuses old new RowFull = Scans old new 64
Refuses old new Draining = IsShut old new
Refuses old new (PoolFull c) = IsOverMax old new c
Refuses old new _ = ⊥

-- an own place was seen vacant, and an Up below the greatest number waits for its Park, after a Gate that shows ready
pub record MayRest (s : PlaceView) (place : PlaceNo) : Type 0 where
  pub count : ℕ
  pub own : IsOwn s place
  pub vacant : WasVacant s.view.mine place
  pub idle : s.view.hand ≡ Idle
  pub turn_is : turn s ≡ record { due = WentUp count; call = AtEase }
  pub below : IsBelow s.view.terms.rules.max count
  pub admitted : admission_of s.view.mine ≡ Admitted

-- in the table after the history this face doesn't rest at the place
abbrev pub IsGone : PlaceView → PlaceNo → Face → Type 0
IsGone s place f = spot_at (table_after s.view.seen) place ≢ Holds f

-- a Take, a Free and a Down: the value is what rested at the place when it was taken
pub record Gets (old new : PlaceView) (n : SessionNo) (first : Bool) (place : PlaceNo) (f : Face)
    (v : Shown) : Type 0 where
  pub count : ℕ
  pub steps : Steps old new (taking old.view.thread n first place f count)
  pub between : List Note
  pub behind : List Note
  pub seen : new.view.seen ≡ (old.view.seen ++ between) ++ taken old.view.thread n first place f ∷ behind
  pub others : own_of old.view.thread between ≡ []
  pub there : WasThere old.view.terms (old.view.seen ++ between) (spot_no place) v
  pub face : v.face ≡ f
  pub gone : IsGone new place f
  pub rest : IsAtRest new

-- one Look, which shows something else
pub record Loses (old new : PlaceView) (place : PlaceNo) (f : Face) : Type 0 where
  pub found : Found
  pub other : found ≢ Resting f
  pub steps : Steps old new (plain (Look old.view.thread place found) ∷ [])
  pub gone : IsGone new place f
  pub rest : IsAtRest new

-- one Park at the place, and the entries that follow it
pub record ParksAt (old new : PlaceView) (n : SessionNo) (place : PlaceNo) (v : Shown) (tail : List Note) : Type 0 where
  pub steps : Steps old new (parked old.view.thread n place v ∷ tail)
  pub between : List Note
  pub behind : List Note
  pub seen : new.view.seen ≡ (old.view.seen ++ between) ++ parked old.view.thread n place v ∷ behind
  pub before : own_of old.view.thread between ≡ []
  pub after : own_of old.view.thread behind ≡ tail
  pub face : IsFace v.face
  pub rest : IsAtRest new

-- the Gate after the Park shows ready
abbrev pub StaysAt : PlaceView → PlaceView → SessionNo → PlaceNo → Shown → Type 0
StaysAt old new n place v = ParksAt old new n place v (plain (Gate old.view.thread false) ∷ [])

-- the Gate after the Park shows draining, and another had taken it
pub record IsTakenAt (old new : PlaceView) (n : SessionNo) (place : PlaceNo) (v : Shown) : Type 0 where
  pub found : Found
  pub other : found ≢ Resting v.face
  pub parks : ParksAt old new n place v
      (plain (Gate old.view.thread true) ∷ plain (Look old.view.thread place found) ∷ [])
  pub gone : IsGone new place v.face

-- the Gate after the Park shows draining, and it was taken back as it was
pub record ComesBack (old new : PlaceView) (n : SessionNo) (place : PlaceNo) (v w : Shown) : Type 0 where
  pub down : ℕ
  pub parks : ParksAt old new n place v
      (plain (Gate old.view.thread true) ∷ taking old.view.thread n false place v.face down)
  pub same : w ≡ v
  pub gone : IsGone new place v.face

-- one of three facts, by what became of a value
abbrev pub MatchOutcome : {V : Type 0} → Outcome V → Type 0 → Type 0 → (V → Type 0) → Type 0
MatchOutcome Stays a b P = a
MatchOutcome IsTaken a b P = b
MatchOutcome (Back v) a b P = P v
