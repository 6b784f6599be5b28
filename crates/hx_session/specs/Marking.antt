-- Which entries a call of a session added at its worker's seats.
use Rattle.std.specs.Prelude.{List, [], Option}
use Rattle.hx_pool.specs.SeatView.{History}
use Rattle.hx_pool.specs.declared.entries.Note.{Note}
use Rattle.hx_connecting.specs.Sessions.{SessionNow, is_first}
use Rattle.hx_connecting.specs.Touches.{Touch, Adds, EachSeat}
use Rattle.hx_connecting.specs.Wanted.{OpensWereWanted}

-- their marks are those of the one connection that it touched, and each connection was opened for want
pub record AddsMarks (s : SessionNow) (seats seats' : List History) : Type 0 where
  pub touch : Option Touch
  pub added : List (List Note)
  pub adds : Adds s.worker s.number (is_first s) touch seats seats' added
  pub wanted : EachSeat (λ h es. OpensWereWanted h (is_first s) [] es) seats' added
