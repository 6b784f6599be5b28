-- A replay under way, and what its calls keep.
use Rattle.std.specs.Prelude.{◌≡◌, ℕ, ◌≤◌, List, ◌++◌, Some}
use Rattle.hx_base.specs.declared.numbers.Millis.{Millis}
use Rattle.hx_base.specs.declared.order.Order.{Order}
use Rattle.hx_caretaker.specs.Caring.{EachSweep}
use Rattle.hx_caretaker.specs.Orders.{OrdersAt}
use Rattle.hx_caretaker.specs.Rounds.{TicksAt}
use Rattle.hx_caretaker.specs.Sweeps.{Sweep}
use Rattle.hx_config.specs.Limits.{IsWithin, all_servers}
use Rattle.hx_connecting.specs.Around.{abouts}
use Rattle.hx_link.specs.MemoryNets.{MemoryNetNow}
use Rattle.hx_plain.specs.PlainSeat.{first_thread}
use Rattle.hx_record.specs.declared.served.Told.{Told}
use Rattle.hx_pool.specs.SeatView.{History}
use Rattle.hx_worker.specs.declared.answers.Stopped.{Stopped}
use Rattle.hx_worker.specs.Stops.{StopsOne}
use Rattle.hx_worker.specs.Workers.{WorkerNow, HasSeats, Each}
use Rattle.hx_course.specs.Lines.{lines_of}
use Rattle.hx_run.specs.Overs.{AreAlone, IsKept}

-- the worker and its net, what its sessions told, how many turns were made, how many may be, and how many the last round made
pub record RunNow : Type 0 where
  pub worker : WorkerNow
  pub net : MemoryNetNow
  pub records : List Told
  pub turns : ℕ
  pub most : ℕ
  pub last : ℕ

-- a replay of these
abbrev pub run_now : WorkerNow → MemoryNetNow → List Told → ℕ → ℕ → ℕ → RunNow
run_now worker net records turns most last = record {
  worker = worker;
  net = net;
  records = records;
  turns = turns;
  most = most;
  last = last;
}

-- what always holds of its worker: it is that of the first thread, and its configuration is within its limits; the seats hold just what the sessions have, each in one
-- history, alone at its server's board; and each journal is whole from the beginning
pub record IsWorking (w : WorkerNow) : Type 0 where
  pub thread : w.thread ≡ first_thread
  pub config : IsWithin w.config.threads w.config.fronts w.config.backs
  pub seats : HasSeats w
  pub alone : AreAlone (all_servers w.config.backs) (abouts w.seats)
  pub whole : Each IsKept w.journals

-- the worker's journals may have got room; all else is as it was
abbrev pub IsRoomier : WorkerNow → WorkerNow → Type 0
IsRoomier w w' = w' ≡ record w { journals = w'.journals }

-- what always holds of a replay: that of its worker, whose loop is the net's, and no more turns were made than may be
pub record IsRun (r : RunNow) : Type 0 where
  pub working : IsWorking r.worker
  pub loop : r.net.state.loop_no ≡ 0
  pub within : r.turns ≤ r.most

-- a call leaves the configuration, and how many turns may be made; it takes back no turn
pub record GoesOn (a b : RunNow) : Type 0 where
  pub config : b.worker.config ≡ a.worker.config
  pub most : b.most ≡ a.most
  pub turns : a.turns ≤ b.turns

-- the order was carried out on its server, and nothing was done on another
abbrev pub CarriedOut : Order → List History → List History → Type 0
CarriedOut what old new = (sweeps : List Sweep) × EachSweep (OrdersAt what) 0 old new sweeps

-- the caretaker made its round on each server
abbrev pub Ticked : Millis → List History → List History → Type 0
Ticked now old new = (sweeps : List Sweep) × EachSweep (TicksAt now) 0 old new sweeps

-- the session of the least number was stopped, and what that told stands behind the records so far
pub record StopsFirst (a b : RunNow) : Type 0 where
  -- the worker, whose journals may have got room before
  pub ready : WorkerNow
  pub roomier : IsRoomier a.worker ready
  pub stopped : Stopped
  pub stops : StopsOne ready b.worker a.net.state b.net.state stopped
  pub told : b.records ≡ a.records ++ lines_of stopped.served (Some stopped.left)
