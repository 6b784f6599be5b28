-- What the calls of a seat ask. It follows from the seat's own entries.
use Rattle.std.specs.Prelude.{◌≡◌, ◌≢◌, ℕ, Bool, true, cond, List, [], ◌∷◌, ◌++◌, None}
use Rattle.hx_base.specs.declared.numbers.SessionNo.{SessionNo}
use Rattle.hx_base.specs.declared.numbers.PlaceNo.{PlaceNo}
use Rattle.hx_base.specs.declared.numbers.Face.{Face}
use Rattle.hx_base.specs.declared.rules.Mode.TheVariants as mode
use Rattle.hx_base.specs.PlaceWords.{IsFace}
use Rattle.hx_base.specs.Shown.{Shown}
use Rattle.hx_pool.specs.declared.entries.Entry.{Entry}
use Rattle.hx_pool.specs.declared.entries.Entry.TheVariants.{Up, Down, Park, Gate}
use Rattle.hx_pool.specs.declared.entries.Note.{Note}
use Rattle.hx_pool.specs.Table.{spot_no}
use Rattle.hx_pool.specs.Rules.{allows}
use Rattle.hx_pool.specs.Parking.{CanPark}
use Rattle.hx_places.specs.declared.view.Hand.TheVariants.{Idle, Claims}
use Rattle.hx_places.specs.Turns.{Call, AtEase, HasParked, FoundDrain, Settled, WentUp, IsBelow}
use Rattle.hx_places.specs.Known.{WasVacant}
use Rattle.hx_places.specs.Seats.{PlaceView, turn, history_of, IsOwn}

-- neither the Gate after a Park is due, nor the try to take it back
abbrev pub IsAtEase : PlaceView → Type 0
IsAtEase s = (turn s).call ≡ AtEase

-- the drain state may be read: no try to take a Park back is due
abbrev pub MayReadGate : Call → Type 0
MayReadGate AtEase = Unit {0}
MayReadGate (HasParked place f) = Unit {0}
MayReadGate (FoundDrain place f) = ⊥

-- this face may be tried at this place: where a Park is to be taken back, that one alone
abbrev pub MayTry : Call → PlaceNo → Face → Type 0
MayTry AtEase at f = Unit {0}
MayTry (HasParked place g) at f = ⊥
MayTry (FoundDrain place g) at f = (at ≡ place) × (f ≡ g)

-- claim: an own place that was last seen vacant, and no other claim under way
pub record CanClaim (s : PlaceView) (place : PlaceNo) : Type 0 where
  pub own : IsOwn s place
  pub vacant : WasVacant s.view.mine place
  pub idle : s.view.hand ≡ Idle

-- publish: the claim of the place is under way, the session may park this connection, and the reuse mode shares
pub record CanPublish (s : PlaceView) (place : PlaceNo) (n : SessionNo) (v : Shown) : Type 0 where
  pub own : IsOwn s place
  pub claim : s.view.hand ≡ Claims (spot_no place)
  pub parks : CanPark (history_of s None) n v
  pub mode : s.view.terms.rules.mode ≢ mode.Never

-- an Up waits for its Park or Down, and its count was below the greatest number
abbrev pub HasUp : PlaceView → Type 0
HasUp s = (old : ℕ) × ((turn s).due ≡ WentUp old) × IsBelow s.view.terms.rules.max old

-- what the last Gate, and the Up after it, leave: nothing, a Gate that shows ready, and an Up that waits after that
pub data Admission : Type 0 where
  Shut : Admission
  Ready : Admission
  Admitted : Admission

-- the same after one entry more
abbrev pub admission_after : Admission → Entry → Admission
admission_after a (Gate t draining) = cond draining Shut Ready
admission_after Ready (Up t old) = Admitted
admission_after Admitted (Down t old) = Ready
admission_after Admitted (Park t n id place uses) = Ready
admission_after a _ = a

-- the same after these notes more
abbrev pub admission_from : Admission → List Note → Admission
admission_from a [] = a
admission_from a (x ∷ xs) = admission_from (admission_after a x.entry) xs

-- what a thread was admitted to that made these entries
abbrev pub admission_of : List Note → Admission
admission_of mine = admission_from Shut mine

-- neither an Up nor a Gate is among them
abbrev pub AreSteady : List Note → Type 0
AreSteady [] = Unit {0}
AreSteady (x ∷ xs) = (elim x.entry [ Up t old ↦ ⊥ | Gate t draining ↦ ⊥ | _ ↦ Unit {0} ]) × AreSteady xs

-- the last Gate shows ready, the Up that waits was made after it, and the claim after that
pub record IsAdmitted (s : PlaceView) : Type 0 where
  pub admitted : admission_of s.view.claimed ≡ Admitted
  pub since : List Note
  pub mine : s.view.mine ≡ s.view.claimed ++ since
  pub steady : AreSteady since

-- take_at: the face is one that a word can show, and a session may take a connection of so many uses
pub record CanTake (s : PlaceView) (n : SessionNo) (first : Bool) (f : Face) : Type 0 where
  pub face : IsFace f
  pub may : n.0 ≢ 0 → allows s.view.terms.rules.mode first f.uses ≡ true

-- take_at: the count is settled, and the try is the one that is due, if one is
pub record IsInTurn (s : PlaceView) (place : PlaceNo) (f : Face) : Type 0 where
  pub settled : (turn s).due ≡ Settled
  pub try_ : MayTry (turn s).call place f
