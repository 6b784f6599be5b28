-- What contracts see of a thread's seat, and what each of its calls does.
use Rattle.std.specs.Prelude.{◌≡◌, ◌≢◌, ℕ, ◌<◌, ◌≤◌, Bool, ◌++◌, Option}
use Rattle.atomic_table.specs.Seated.{TableId}
use Rattle.hx_base.specs.declared.numbers.ThreadNo.{ThreadNo}
use Rattle.hx_base.specs.declared.numbers.SessionNo.{SessionNo}
use Rattle.hx_base.specs.declared.numbers.PlaceNo.{PlaceNo}
use Rattle.hx_base.specs.declared.numbers.Face.{Face}
use Rattle.hx_base.specs.Shown.{Shown}
use Rattle.hx_pool.specs.declared.board.BoardTerms.{BoardTerms}
use Rattle.hx_pool.specs.declared.entries.Entry.TheVariants.{Free, Look}
use Rattle.hx_pool.specs.declared.entries.Found.{Found}
use Rattle.hx_pool.specs.declared.entries.Found.TheVariants.{Resting}
use Rattle.hx_pool.specs.declared.entries.Note.{Note}
use Rattle.hx_pool.specs.Table.{IsInRow, spot_no}
use Rattle.hx_pool.specs.History.{plain, own_of, opens_of, table_after}
use Rattle.hx_pool.specs.SeatView.{About, History, about_of}
use Rattle.hx_pool.specs.Taking.{taken}
use Rattle.hx_places.specs.declared.view.View.{View}
use Rattle.hx_places.specs.declared.view.Hand.TheVariants.{Idle}
use Rattle.hx_places.specs.declared.view.Role.TheVariants.{Works}
use Rattle.hx_places.specs.Turns.{Turn, turn_of}
use Rattle.hx_places.specs.Right.{IsRight}
use Rattle.hx_places.specs.Known.{RestsIn, rested_of}
use Rattle.hx_places.specs.Views.{Adds, worker, claiming, WasThere, Hears, told_by}

-- a seat: its board, and what it knows
pub record PlaceView : Type 0 where
  pub board : TableId
  pub view : View

-- what no call of a seat changes
abbrev pub about : PlaceView → About
about s = about_of s.view.terms s.view.thread s.board

-- a seat as one of the trait of all seats, whose drain has passed so many places
abbrev pub history_of : PlaceView → Option ℕ → History
history_of s passed = record { about = about s; seen = s.view.seen; mine = s.view.mine; passed = passed }

-- what its thread still owes
abbrev pub turn : PlaceView → Turn
turn s = turn_of s.view.mine

-- a place of the board
abbrev pub IsOfBoard : PlaceView → PlaceNo → Type 0
IsOfBoard s place = (place.row < s.view.terms.threads) × IsInRow place

-- a place of the thread's own row
abbrev pub IsOwn : PlaceView → PlaceNo → Type 0
IsOwn s place = (place.row ≡ s.view.thread.0) × IsInRow place

-- what it has seen is right, has just its own entries of its thread, and what rests in its row stands in these
pub record Stands (v : View) : Type 0 where
  pub right : IsRight v.terms v.seen
  pub own : v.mine ≡ own_of v.thread v.seen
  pub row : (p : ℕ) → RestsIn (table_after v.seen) v.thread p (rested_of v.mine p)
  pub low : v.thread.0 < v.terms.threads
  pub few : v.terms.threads ≤ 16

-- the call made this entry, and its hand is as before
pub record Notes (old new : PlaceView) (e : Note) : Type 0 where
  pub board : new.board ≡ old.board
  pub adds : Adds old.view.hand old.view new.view e
  pub was : Stands old.view
  pub one : Stands new.view

-- the place is claimed, and no entry was made
abbrev pub claiming_at : PlaceView → PlaceNo → PlaceView
claiming_at s place = record { board = s.board; view = claiming s.view (spot_no place) }

-- the call made this entry, and its hand is free
pub record Publishes (old new : PlaceView) (e : Note) : Type 0 where
  pub board : new.board ≡ old.board
  pub adds : Adds Idle old.view new.view e
  pub was : Stands old.view
  pub one : Stands new.view

-- the call made a Take and a Free; the value is what rested at the place when it was taken
pub record TakesAt (old new : PlaceView) (n : SessionNo) (first : Bool) (place : PlaceNo) (f : Face)
    (v : Shown) : Type 0 where
  pub board : new.board ≡ old.board
  pub middle : View
  pub takes : Adds old.view.hand old.view middle (taken old.view.thread n first place f)
  pub frees : Adds old.view.hand middle new.view (plain (Free old.view.thread place))
  pub there : WasThere old.view.terms (old.view.seen ++ takes.between) (spot_no place) v
  pub face : v.face ≡ f
  pub was : Stands old.view
  pub one : Stands new.view

-- the call looked, and the place showed something else
pub record Misses (old new : PlaceView) (place : PlaceNo) (f : Face) (found : Found) : Type 0 where
  pub notes : Notes old new (plain (Look old.view.thread place found))
  pub other : found ≢ Resting f

-- the other has heard what this one had seen
pub record Told (first old new : PlaceView) : Type 0 where
  pub board : new.board ≡ old.board
  pub hears : Hears (told_by old.view first.view) new.view
  pub was : Stands old.view
  pub one : Stands new.view

-- between calls: a thread's seat of a board with these terms, which opened so many connections
pub record KeepsSeat (b : BoardTerms) (t : ThreadNo) (opened : ℕ) (v : View) : Type 0 where
  pub role : v.role ≡ Works
  pub terms : v.terms ≡ b
  pub thread : v.thread ≡ t
  pub low : t.0 < b.threads
  pub few : b.threads ≤ 16
  pub own : v.mine ≡ own_of t v.seen
  pub right : IsRight b v.seen
  pub opened_is : opened ≡ opens_of v.mine

-- a thread's seat that has made and seen nothing
abbrev pub first_seat : BoardTerms → ThreadNo → TableId → PlaceView
first_seat b t board = record { board = board; view = worker b t }
