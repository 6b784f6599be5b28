use Rattle.std.proofs.Common.{◌≡◌, ℕ, length, slice_get, Some}
use Rattle.hx_places.specs.Seats.{PlaceView}
use Rattle.hx_serve.specs.Begins.{IsNew}
use Rattle.hx_serve.proofs.seating.hand_out.Given as goal

abbrev pub invariant-loop-seat : goal.invariant-loop-seat
invariant-loop-seat g l = (k : ℕ) (s : PlaceView) → slice_get l.seats.items k ≡ Some s → IsNew l.server s

abbrev pub decreases-loop-seat : goal.decreases-loop-seat
decreases-loop-seat g l = length l.seats.items
