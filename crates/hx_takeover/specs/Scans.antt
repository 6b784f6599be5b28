-- What looks through the rows of other threads find.
use Rattle.std.specs.Prelude.{◌≡◌, ℕ, ◌+◌, ◌-◌, ◌*◌, ◌%◌, ◌<◌, ◌≤◌, ◌⊎◌, not, Bool, true, List, ◌∷◌, ◌++◌, length, Some}
use Rattle.hx_base.specs.declared.numbers.SessionNo.{SessionNo}
use Rattle.hx_base.specs.declared.numbers.PlaceNo.{PlaceNo}
use Rattle.hx_base.specs.Shown.{Shown}
use Rattle.hx_pool.specs.declared.entries.Note.{Note}
use Rattle.hx_pool.specs.Table.{IsInRow}
use Rattle.hx_pool.specs.History.{what_of}
use Rattle.hx_pool.specs.Rules.{allows}
use Rattle.hx_pool.specs.Causes.{AllLooks, IsUnavailableTo, place_of}
use Rattle.hx_pool.specs.Taking.{taken, taking, is_safe}
use Rattle.hx_resting.specs.Row.{fits}
use Rattle.hx_places.specs.Seats.{PlaceView}
use Rattle.hx_rows.specs.Steps.{Steps}

-- the mode lets the request take a connection of so many uses
abbrev pub may : PlaceView → Bool → ℕ → Bool
may s first uses = allows s.view.terms.rules.mode first uses

-- the same, and such a connection is in the list that is meant
abbrev pub may_in : PlaceView → Bool → Bool → ℕ → Bool
may_in s first safe uses = fits s.view.terms.rules.mode first safe uses

-- the first k places of the row had nothing for the request in the list that is meant
abbrev pub ListPassed : PlaceView → Bool → Bool → List Note → ℕ → ℕ → Type 0
ListPassed s first safe looks row k = (p : ℕ) → p < k → IsUnavailableTo (may_in s first safe) s.view.thread looks (place_of row p)

-- no place of the row had anything for the request
abbrev pub RowPassed : PlaceView → Bool → List Note → ℕ → Type 0
RowPassed s first looks row = (p : ℕ) → p < 64 → IsUnavailableTo (may s first) s.view.thread looks (place_of row p)

-- the row of the thread that comes so many after the seat's own, with wrap
abbrev pub row_after : PlaceView → ℕ → ℕ
row_after s step = (s.view.thread.0 + step) % s.view.terms.threads

-- from the next thread on the rows of the threads before this step had nothing for the request
abbrev pub RowsPassed : PlaceView → Bool → List Note → ℕ → Type 0
RowsPassed s first looks k = (j : ℕ) → 1 ≤ j → j < k → RowPassed s first looks (row_after s j)

-- a connection of so many uses was the first one in the order of the row: it is in the list that the request prefers,
-- and the places of that list before its own were passed; or it is in the other list, the whole preferred list was
-- passed, and so were the places of its list before its own
abbrev pub IsFirstInRow : PlaceView → Bool → List Note → PlaceNo → ℕ → Type 0
IsFirstInRow s first looks place uses =
    ((is_safe uses ≡ first) × ListPassed s first first looks place.row place.place)
    ⊎ ((is_safe uses ≡ not first) × ListPassed s first first looks place.row 64 × ListPassed s first (not first) looks place.row place.place)

-- the seat only looked, at most so many times
pub record Looked (old new : PlaceView) (most : ℕ) : Type 0 where
  pub looks : List Note
  pub looked : AllLooks old.view.thread looks
  pub steps : Steps old new looks
  pub few : length looks ≤ most

-- the seat made these looks, and took: the value has the face of the Take, the board's server, and what stood beside the
-- last Park of its connection
pub record Took (old new : PlaceView) (n : SessionNo) (first : Bool) (place : PlaceNo) (v : Shown) (looks : List Note) : Type 0 where
  pub count : ℕ
  pub looked : AllLooks old.view.thread looks
  pub steps : Steps old new (looks ++ taking old.view.thread n first place v.face count)
  pub between : List Note
  pub behind : List Note
  pub seen : new.view.seen ≡ (old.view.seen ++ between) ++ taken old.view.thread n first place v.face ∷ behind
  pub server : v.server ≡ old.view.terms.server
  pub what : what_of (old.view.seen ++ between) v.face.id.0 ≡ Some v.what

-- the place had nothing for the request in the list that is meant
pub record Misses (old new : PlaceView) (first safe : Bool) (place : PlaceNo) : Type 0 where
  pub only : Looked old new 2
  pub none : IsUnavailableTo (may_in old first safe) old.view.thread only.looks place

-- what rested at the place was taken
pub record Takes (old new : PlaceView) (n : SessionNo) (first safe : Bool) (place : PlaceNo) (v : Shown) : Type 0 where
  pub looks : List Note
  pub few : length looks ≤ 1
  pub took : Took old new n first place v looks
  pub fit : may_in old first safe v.face.uses ≡ true

-- the first k places of the row had nothing for the request in the list that is meant
pub record Passes (old new : PlaceView) (first safe : Bool) (row k : ℕ) : Type 0 where
  pub only : Looked old new (2 * k)
  pub none : ListPassed old first safe only.looks row k

-- the first one of the list was taken that the request may take
pub record TakesInList (old new : PlaceView) (n : SessionNo) (first safe : Bool) (row : ℕ) (place : PlaceNo) (v : Shown) : Type 0 where
  pub looks : List Note
  pub few : length looks ≤ 128
  pub took : Took old new n first place v looks
  pub fit : may_in old first safe v.face.uses ≡ true
  pub row_is : place.row ≡ row
  pub inside : IsInRow place
  pub before : ListPassed old first safe looks row place.place

-- the row had nothing for the request
pub record PassesRow (old new : PlaceView) (first : Bool) (row : ℕ) : Type 0 where
  pub only : Looked old new 256
  pub none : RowPassed old first only.looks row

-- the first one in the order of the row was taken
pub record TakesInRow (old new : PlaceView) (n : SessionNo) (first : Bool) (row : ℕ) (place : PlaceNo) (v : Shown) : Type 0 where
  pub looks : List Note
  pub few : length looks ≤ 256
  pub took : Took old new n first place v looks
  pub row_is : place.row ≡ row
  pub inside : IsInRow place
  pub order : IsFirstInRow old first looks place v.face.uses

-- from the next thread on the rows of the threads before step k had nothing for the request
pub record PassesRows (old new : PlaceView) (first : Bool) (k : ℕ) : Type 0 where
  pub only : Looked old new (256 * (k - 1))
  pub none : RowsPassed old first only.looks k

-- the first one in the order of the first row was taken that had something for the request
pub record TakesInRows (old new : PlaceView) (n : SessionNo) (first : Bool) (place : PlaceNo) (v : Shown) : Type 0 where
  pub looks : List Note
  pub few : length looks ≤ 3840
  pub took : Took old new n first place v looks
  pub step : ℕ
  pub ahead : 1 ≤ step
  pub below : step < old.view.terms.threads
  pub row_is : place.row ≡ row_after old step
  pub inside : IsInRow place
  pub rows : RowsPassed old first looks step
  pub order : IsFirstInRow old first looks place v.face.uses
