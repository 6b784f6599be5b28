-- What a caller learns of the caretaker's work on a worker's servers.
use Rattle.std.specs.Prelude.{◌≡◌, ℕ}
use Rattle.hx_base.specs.declared.numbers.Millis.{Millis}
use Rattle.hx_base.specs.declared.order.Order.{Order}
use Rattle.hx_link.specs.Nets.{NetState}
use Rattle.hx_pool.specs.SeatView.{History}
use Rattle.hx_caretaker.specs.Caring.{CaresForAll}
use Rattle.hx_caretaker.specs.Orders.{OrdersAt}
use Rattle.hx_caretaker.specs.Rounds.{TicksAt}
use Rattle.hx_caretaker.specs.Sweeps.{Sweep, care_marks}
use Rattle.hx_connecting.specs.Journals.{JournalsStay}
use Rattle.hx_worker.specs.Workers.{WorkerNow, StaysWorker}

-- on each server the caretaker does as P says: it buries the links of what it closed and answers how many these were;
-- no session and no turn changes
pub record Cares (P : ℕ → History → History → Sweep → Type 0) (w w' : WorkerNow) (net net' : NetState) (count : ℕ)
    : Type 0 where
  pub stays : StaysWorker w w'
  pub sessions : w'.sessions ≡ w.sessions
  pub turns : w'.turns ≡ w.turns
  pub cares : CaresForAll P w.seats w'.seats net net' count
  pub journals : JournalsStay care_marks w.journals w'.journals

-- a round at a moment, on each server
abbrev pub TicksAll : WorkerNow → WorkerNow → NetState → NetState → Millis → ℕ → Type 0
TicksAll w w' net net' now count = Cares (TicksAt now) w w' net net' count

-- an order, on its server alone
abbrev pub CarriesOut : WorkerNow → WorkerNow → NetState → NetState → Order → ℕ → Type 0
CarriesOut w w' net net' what count = Cares (OrdersAt what) w w' net net' count
