-- What contracts see of a row.
use Rattle.std.specs.Prelude.{List}
use Rattle.hx_pool.specs.declared.entries.Entry.{Entry}
use Rattle.hx_pool.specs.Rules.{KeepsLimit}
use Rattle.hx_places.specs.Sums.{SumsAfter}
use Rattle.hx_places.specs.Seats.{PlaceView}
use Rattle.hx_rows.specs.declared.stays.Stay.{Stay}
use Rattle.hx_rows.specs.Stays.{Follows}

-- the stays in the order of parking, and the marks of the last call
pub record RowView : Type 0 where
  pub stays : List Stay
  pub last : List Entry

-- the row is that of the seat's thread: it has whatever rests there, in the order of parking
abbrev pub IsRowOf : List Stay → PlaceView → Type 0
IsRowOf stays s = Follows stays s.view.thread.0 s.view.seen

-- at no moment of the history that the seat has seen do more than the greatest number rest
abbrev pub NeverOverMax : PlaceView → Type 0
NeverOverMax s = KeepsLimit s.view.terms.rules s.view.seen

-- the count is what rests, and one more for each Up without its Park or Down and each Take without its Down; what rests
-- and what was admitted by an Up below the greatest number is at most that number
abbrev pub KeepsCount : PlaceView → Type 0
KeepsCount s = SumsAfter s.view.terms s.view.seen
