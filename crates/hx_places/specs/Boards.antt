-- What contracts say of a board and the seats that it gives.
use Rattle.std.specs.Prelude.{◌≡◌, ℕ, List, [], length, slice_get, Some, Option}
use Rattle.atomic_table.specs.declared.shared.Seat.{Seat}
use Rattle.hx_places.specs.declared.view.View.{View}
use Rattle.hx_places.specs.declared.board.Board.{Board}
use Rattle.hx_places.specs.Sums.{thread_at}
use Rattle.hx_places.specs.Views.{worker}
use Rattle.hx_places.specs.Seats.{PlaceView, first_seat}

module _ {V : Type 0} where
  -- the seats of all threads, in order, which have made and seen nothing
  pub record AreFirst (b : Board V) (seats : List PlaceView) : Type 0 where
    pub count : length seats ≡ b.terms.threads
    pub each : (k : ℕ) (s : PlaceView) → slice_get seats k ≡ Some s
        → s ≡ first_seat b.terms (thread_at k) b.table.shared.table_id

  -- a token that the board cut for the thread k
  abbrev pub IsCut : Board V → ℕ → Seat (Option V) View → Type 0
  IsCut b k s = (s.table_id ≡ b.table.shared.table_id) × (s.me ≡ (worker b.terms (thread_at k), []))

  -- the tokens of all threads, in order
  pub record AreCut (b : Board V) (tokens : List (Seat (Option V) View)) : Type 0 where
    pub count : length tokens ≡ b.terms.threads
    pub each : (k : ℕ) (s : Seat (Option V) View) → slice_get tokens k ≡ Some s → IsCut b k s
