-- What contracts say of a board and the seats that it gives.
use Rattle.std.specs.Prelude.{◌≡◌, ℕ, Option, []}
use Rattle.atomic_table.specs.declared.shared.Seat.{Seat}
use Rattle.hx_pool.specs.SeatView.{about_of}
use Rattle.hx_lockboard.specs.declared.board.LockBoard.{LockBoard}
use Rattle.hx_resting.specs.declared.values.Rows.{Rows}
use Rattle.hx_resting.specs.declared.roles.View.{View}
use Rattle.hx_lockboard.specs.Views.{worker}
use Rattle.hx_lockboard.specs.Seats.{SeatView, IsUnused}

module _ {V : Type 0} where
  -- a seat that the board cut for the thread k
  abbrev pub IsCut : Seat (Option (Rows V)) View → LockBoard V → ℕ → Type 0
  IsCut s b k = (s.table_id ≡ b.table.shared.table_id) × (s.me ≡ (worker b.terms (record { 0 = k }), []))

  -- the seat of the thread k, as the board gives it
  abbrev pub IsFirst : SeatView → LockBoard V → ℕ → Type 0
  IsFirst s b k = (s.history.about ≡ about_of b.terms (record { 0 = k }) b.table.shared.table_id) × IsUnused s.history
