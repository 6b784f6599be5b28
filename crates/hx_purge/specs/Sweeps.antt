-- What looks through the rows find, for one who takes whatever rests.
use Rattle.std.specs.Prelude.{◌≡◌, ℕ, ◌-◌, ◌*◌, ◌<◌, ◌≤◌, false, List, length}
use Rattle.hx_base.specs.declared.numbers.PlaceNo.{PlaceNo}
use Rattle.hx_base.specs.Shown.{Shown}
use Rattle.hx_pool.specs.declared.entries.Note.{Note}
use Rattle.hx_pool.specs.Causes.{IsUnavailable, nth_place, caretaker}
use Rattle.hx_pool.specs.Purge.{Passes}
use Rattle.hx_places.specs.Seats.{PlaceView, about}
use Rattle.hx_takeover.specs.Scans.{Looked, Took}

-- the place had nothing to take
pub record Misses (old new : PlaceView) (place : PlaceNo) : Type 0 where
  pub only : Looked old new 2
  pub none : IsUnavailable old.view.thread only.looks place

-- what rested at the place was taken
pub record Takes (old new : PlaceView) (place : PlaceNo) (v : Shown) : Type 0 where
  pub looks : List Note
  pub few : length looks ≤ 1
  pub took : Took old new caretaker false place v looks

-- the places from one on up to another, in the order of the thread, had nothing to take
pub record PassesTo (old new : PlaceView) (from to : ℕ) : Type 0 where
  pub only : Looked old new (2 * (to - from))
  pub none : Passes (about old) only.looks from to

-- the first one from a place on that could be taken was taken
pub record TakesNext (old new : PlaceView) (from at : ℕ) (place : PlaceNo) (v : Shown) : Type 0 where
  pub looks : List Note
  pub few : length looks ≤ 2048
  pub took : Took old new caretaker false place v looks
  pub below : from ≤ at
  pub inside : at < 64 * old.view.terms.threads
  pub place_is : place ≡ nth_place old.view.thread old.view.terms.threads at
  pub none : Passes (about old) looks from at
