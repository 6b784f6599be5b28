-- What a seat keeps between its calls.
use Rattle.std.specs.Prelude.{◌≡◌, ℕ, List, Option, None}
use Rattle.hx_base.specs.declared.totals.Totals.{Totals}
use Rattle.hx_pool.specs.declared.entries.Entry.{Entry}
use Rattle.hx_pool.specs.History.{entries_of}
use Rattle.hx_pool.specs.SeatView.{History, StandsInOneHistory}
use Rattle.hx_pool.specs.Totals.{totals_of}
use Rattle.hx_places.specs.Seats.{PlaceView, history_of}
use Rattle.hx_rows.specs.declared.stays.Stay.{Stay}
use Rattle.hx_rows.specs.Row.{IsRowOf}
use Rattle.hx_rows.specs.Steps.{IsAtRest}
use Rattle.hx_purge.specs.Drains.{Drains}

-- its history, and the marks of its last call
pub record SlotView : Type 0 where
  pub history : History
  pub last : List Entry

-- nothing is under way; the row has whatever rests there, the drain has covered the places that it passed, and each of
-- the seat's own entries was counted
pub record KeepsSlot (s : PlaceView) (stays : List Stay) (passed : Option ℕ) (totals : Totals) : Type 0 where
  pub one : StandsInOneHistory (history_of s None)
  pub rest : IsAtRest s
  pub row : IsRowOf stays s
  pub drains : Drains s passed
  pub counted : totals ≡ totals_of (entries_of s.view.mine)
