-- In which order rows and lists are passed, and what a takeover adds to the seat's own entries.
use Rattle.std.specs.Prelude.{◌≡◌, ℕ, ◌<◌, ◌≤◌, Bool, List, [], ◌∷◌, ◌++◌}
use Rattle.hx_base.specs.declared.numbers.SessionNo.{SessionNo}
use Rattle.hx_base.specs.declared.numbers.PlaceNo.{PlaceNo}
use Rattle.hx_base.specs.Shown.{Shown}
use Rattle.hx_pool.specs.declared.entries.Entry.TheVariants.{Take}
use Rattle.hx_pool.specs.declared.entries.Note.{Note}
use Rattle.hx_pool.specs.SeatView.{History, Grows}
use Rattle.hx_pool.specs.Causes.{AllLooks}
use Rattle.hx_pool.specs.Taking.{taking}
use Rattle.hx_pool.specs.Takeover.{counted}
use Rattle.hx_places.specs.Seats.{PlaceView}
use Rattle.hx_takeover.specs.Scans.{row_after, RowsPassed, IsFirstInRow}

-- the call counted, looked and took; by its looks the rows from the next thread's on had nothing for the request, up to
-- the one of the place, where the connection was the first one in the order of the row
pub record TakesInOrder (old new : PlaceView) (n : SessionNo) (first : Bool) (place : PlaceNo) (v : Shown) : Type 0 where
  pub c : ℕ
  pub looks : List Note
  pub count : ℕ
  pub looked : AllLooks old.view.thread looks
  pub mine : new.view.mine ≡ old.view.mine ++ counted old.view.thread c ∷ (looks ++ taking old.view.thread n first place v.face count)
  pub step : ℕ
  pub ahead : 1 ≤ step
  pub below : step < old.view.terms.threads
  pub row_is : place.row ≡ row_after old step
  pub rows : RowsPassed old first looks step
  pub order : IsFirstInRow old first looks place v.face.uses

-- the call made few entries, of which the Take of this value is the only mark
abbrev pub GrowsBy : History → History → SessionNo → Bool → PlaceNo → Shown → Type 0
GrowsBy old new n first place v = Grows old new (Take old.about.thread n first place v.face.id v.face.uses ∷ [])
