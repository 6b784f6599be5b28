use Rattle.std.proofs.Common.{◌≡◌, ◌≤◌, ℕ, length, slice_get, Some, Option}
use Rattle.std.specs.Vec.{vec_capacity}
use Rattle.atomic_table.specs.declared.shared.Seat.{Seat}
use Rattle.hx_resting.specs.declared.values.Rows.{Rows}
use Rattle.hx_resting.specs.declared.roles.View.{View}
use Rattle.hx_lockboard.specs.Boards.{IsCut}
use Rattle.hx_lockboard.proofs.board.LockBoard.cut.Given as goal

abbrev pub invariant-loop-thread : goal.invariant-loop-thread
invariant-loop-thread g l = record {
  terms : l.self.terms ≡ l.fn.self.terms;
  table : l.self.table.shared.table_id ≡ l.fn.self.table.shared.table_id;
  given : l.self.given ≡ l.thread;
  count : length l.seats.items ≡ l.thread;
  room : l.fn.self.terms.threads ≤ vec_capacity l.seats;
  cut : (k : ℕ) (s : Seat (Option (Rows g.row.V.Denot)) View) → slice_get l.seats.items k ≡ Some s → IsCut s l.self k;
}
