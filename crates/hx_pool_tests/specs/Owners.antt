-- What a test keeps of a thread's seat and its row.
use Rattle.std.specs.Prelude.{◌≡◌}
use Rattle.hx_places.specs.Seats.{PlaceView}
use Rattle.hx_rows.specs.Row.{RowView, IsRowOf}
use Rattle.hx_rows.specs.Steps.{IsAtRest}

-- nothing is under way at the seat, which is one of server 0, and the row is its own
pub record IsOwner (s : PlaceView) (r : RowView) : Type 0 where
  pub rest : IsAtRest s
  pub row : IsRowOf r.stays s
  pub server : s.view.terms.server ≡ record { 0 = 0 }
