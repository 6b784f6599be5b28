-- A worker's seat between its steps.
use Rattle.std.specs.Prelude.{◌≡◌, ℕ, ◌<◌, [], Option}
use Rattle.hx_base.specs.declared.numbers.SessionNo.{SessionNo}
use Rattle.hx_base.specs.declared.numbers.ServerNo.{ServerNo}
use Rattle.hx_base.specs.declared.numbers.PlaceNo.{PlaceNo}
use Rattle.hx_base.specs.declared.numbers.Face.{Face}
use Rattle.hx_base.specs.declared.rules.Mode.TheVariants as mode
use Rattle.hx_pool.specs.declared.board.BoardTerms.{BoardTerms}
use Rattle.hx_pool.specs.Held.{Has, hold_of}
use Rattle.hx_pool.specs.Table.{spot_no}
use Rattle.hx_places.specs.declared.view.Hand.TheVariants.{Idle, Claims}
use Rattle.hx_places.specs.Turns.{AtEase, HasParked, FoundDrain, Settled, WentUp, IsBelow, first_turn}
use Rattle.hx_places.specs.Known.{known_of}
use Rattle.hx_places.specs.Asks.{Admitted, IsAdmitted, admission_of}
use Rattle.hx_places.specs.Seats.{PlaceView, turn, IsOfBoard, IsOwn}

-- the board is of server 0, where each session may use what rests
pub record IsOurs (b : BoardTerms) : Type 0 where
  pub mode : b.rules.mode ≡ mode.Always
  pub server : b.server ≡ record { 0 = 0 }

-- the seat owes nothing and fills no place
pub record IsAtRest (s : PlaceView) : Type 0 where
  pub turn_is : turn s ≡ first_turn
  pub idle : s.view.hand ≡ Idle
  pub ours : IsOurs s.view.terms

-- the same, and it made no entry
pub record IsFresh (s : PlaceView) : Type 0 where
  pub rest : IsAtRest s
  pub unused : s.view.mine ≡ []

-- the seat read that the server is ready, and then counted up below the greatest number
pub record IsAdmittedTo (s : PlaceView) : Type 0 where
  pub before : ℕ
  pub turn_is : turn s ≡ record { due = WentUp before; call = AtEase }
  pub below : IsBelow s.view.terms.rules.max before
  pub admission : admission_of s.view.mine ≡ Admitted
  pub idle : s.view.hand ≡ Idle
  pub ours : IsOurs s.view.terms

-- after that it claimed the place
pub record IsFilling (s : PlaceView) (place : PlaceNo) : Type 0 where
  pub before : ℕ
  pub turn_is : turn s ≡ record { due = WentUp before; call = AtEase }
  pub below : IsBelow s.view.terms.rules.max before
  pub admitted : IsAdmitted s
  pub claims : s.view.hand ≡ Claims (spot_no place)
  pub own : IsOwn s place
  pub board : IsOfBoard s place
  pub ours : IsOurs s.view.terms

-- it parked there with this face, and has to read the drain state
pub record HasToRead (s : PlaceView) (place : PlaceNo) (f : Face) : Type 0 where
  pub turn_is : turn s ≡ record { due = Settled; call = HasParked place f }
  pub idle : s.view.hand ≡ Idle
  pub board : IsOfBoard s place
  pub ours : IsOurs s.view.terms

-- it parked there with this face, and then read that the server drains
pub record HasToTry (s : PlaceView) (place : PlaceNo) (f : Face) : Type 0 where
  pub turn_is : turn s ≡ record { due = Settled; call = FoundDrain place f }
  pub idle : s.view.hand ≡ Idle
  pub board : IsOfBoard s place
  pub ours : IsOurs s.view.terms

-- the seat is of the same thread and board, and its session has what it had
pub record Goes (old new : PlaceView) : Type 0 where
  pub terms : new.view.terms ≡ old.view.terms
  pub thread : new.view.thread ≡ old.view.thread
  pub holds : (i : ℕ) → hold_of new.view.mine i ≡ hold_of old.view.mine i

-- it knows of each place what it knew
abbrev pub Knows : PlaceView → PlaceView → Type 0
Knows old new = (p : ℕ) → known_of new.view.mine p ≡ known_of old.view.mine p

-- its session has the connection, whose number a word can show, with so many uses
abbrev pub HasFace : PlaceView → Face → Type 0
HasFace s f = Has s.view.mine (record { 0 = 1 }) f.id.0 f.uses × (0 < f.id.0) × (f.id.0 < 1099511627776)
