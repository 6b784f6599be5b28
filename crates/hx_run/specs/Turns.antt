-- The calls that a replay made from a new worker on: what each of them told and buried, at which moment, and how many turns they were,
-- the steps that moved.
use Rattle.std.specs.Prelude.{◌≡◌, ℕ, ◌+◌, Bool, true, false, List, [], ◌∷◌, ◌++◌, Contains, Some, None}
use Rattle.hx_base.specs.declared.numbers.Millis.{Millis}
use Rattle.hx_base.specs.declared.numbers.SessionNo.{SessionNo}
use Rattle.hx_base.specs.declared.order.Order.{Order}
use Rattle.hx_base.specs.declared.plan.Plan.{Plan}
use Rattle.hx_config.specs.Limits.{all_servers}
use Rattle.hx_config.specs.Meaning.{Meaning}
use Rattle.hx_connecting.specs.Journals.{JournalRoom}
use Rattle.hx_link.specs.MemoryNets.{new_net}
use Rattle.hx_link.specs.Nets.{NetState, AttachCounted}
use Rattle.hx_link.specs.Told.{LinkState}
use Rattle.hx_plain.specs.PlainSeat.{first_thread}
use Rattle.hx_pool.specs.SeatView.{History}
use Rattle.hx_record.specs.declared.served.Told.{Told}
use Rattle.hx_script_parts.specs.declared.script.ClientLine.{ClientLine}
use Rattle.hx_session.specs.declared.step.Step.{Step}
use Rattle.hx_course.specs.Calls.{step_graves, stop_graves}
use Rattle.hx_course.specs.Graves.{Grave}
use Rattle.hx_course.specs.Lines.{lines_of}
use Rattle.hx_course.specs.Sweeping.{sweep_graves}
use Rattle.hx_worker.specs.Admitting.{Admits}
use Rattle.hx_worker.specs.Cares.{TicksAll, CarriesOut}
use Rattle.hx_worker.specs.Steps.{StepsAt}
use Rattle.hx_worker.specs.Stops.{StopsOne}
use Rattle.hx_worker.specs.Workers.{WorkerNow, HasSeats, new_worker}
use Rattle.hx_worker.specs.declared.answers.Stopped.{Stopped}
use Rattle.hx_run.specs.Begins.{BeginFor}
use Rattle.hx_run.specs.Cares.{Care, Ordered, Ticked}
use Rattle.hx_run.specs.Runs.{RunNow, IsRoomier}
use Rattle.hx_run.specs.Standings.{StoodLast}

-- so many turns behind a step: one more where it moved
abbrev pub turns_after : Bool → ℕ → ℕ
turns_after true turns = turns + 1
turns_after false turns = turns

-- a replay with the turns behind a step of its worker
abbrev pub counted : Bool → RunNow → RunNow
counted moved r = record r { turns = turns_after moved r.turns }

-- a client's link of that plan was offered to the net's loop
pub record IsOffered (plan : Plan) (net net' : NetState) (client : LinkState) : Type 0 where
  pub offered : AttachCounted net net'
  pub no_dial : client.dial ≡ None
  pub follows : client.plan ≡ Some plan

-- calls led from a new worker and a new net of these plans to this worker and this net. The clients came in this order, each at its
-- line's moment; the caretaker was asked for these orders and rounds, in this order; rounds and steps were made at these moments; the
-- calls told these records and left these links buried, in order; and so many of the steps moved
pub data Makes (plans : List Plan) (moments : List Millis) : List ClientLine → List Care → WorkerNow → NetState → List Told → List Grave → ℕ → Type 0 where
  -- the first thread's, with a seat a server of its configuration, at which nothing has happened
  is_new : (config : Meaning) (seats : List History) (journals : List JournalRoom) (room : ℕ) → BeginFor (all_servers config.backs) seats
      → Makes plans moments [] [] (new_worker first_thread config seats journals) (new_net plans room).state [] [] 0
  -- its journals got room
  got_room : (came : List ClientLine) (cares : List Care) (w w' : WorkerNow) (net : NetState) (records : List Told) (graves : List Grave) (turns : ℕ)
      → Makes plans moments came cares w net records graves turns → IsRoomier w w' → Makes plans moments came cares w' net records graves turns
  -- a client's session began
  came_one : (came : List ClientLine) (cares : List Care) (w w' : WorkerNow) (net net' : NetState) (records : List Told) (graves : List Grave) (turns : ℕ)
      (line : ClientLine) (client : LinkState) (n : SessionNo)
      → Makes plans moments came cares w net records graves turns → IsOffered line.plan net net' client
      → Admits w w' client line.front line.moment n
      → Makes plans moments (came ++ line ∷ []) cares w' net' records graves turns
  -- an order was carried out
  obeyed : (came : List ClientLine) (cares : List Care) (w w' : WorkerNow) (net net' : NetState) (records : List Told) (graves : List Grave) (turns : ℕ)
      (what : Order) (count : ℕ)
      → Makes plans moments came cares w net records graves turns → (k : CarriesOut w w' net net' what count)
      → Makes plans moments came (cares ++ Ordered what ∷ []) w' net' records (graves ++ sweep_graves 0 k.cares.sweeps) turns
  -- the caretaker made its round
  ticked : (came : List ClientLine) (cares : List Care) (w w' : WorkerNow) (net net' : NetState) (records : List Told) (graves : List Grave) (turns : ℕ)
      (now : Millis) (count : ℕ)
      → Makes plans moments came cares w net records graves turns → Contains moments now → (k : TicksAll w w' net net' now count)
      → Makes plans moments came (cares ++ Ticked now ∷ []) w' net' records (graves ++ sweep_graves 0 k.cares.sweeps) turns
  -- a session made a step, a turn where it moved; before it the seats held just what the sessions had
  stepped : (came : List ClientLine) (cares : List Care) (w w' : WorkerNow) (net net' : NetState) (records : List Told) (graves : List Grave) (turns : ℕ)
      (n : SessionNo) (now : Millis) (r : Step)
      → Makes plans moments came cares w net records graves turns → Contains moments now → HasSeats w
      → (k : StepsAt w w' net net' n now.0 r)
      → Makes plans moments came cares w' net' (records ++ lines_of r.served r.left) (graves ++ step_graves w w' net net' n r k.0)
      (turns_after r.moved turns)
  -- the session of the least number, which stood still at the last moment, was stopped
  stopped_one : (came : List ClientLine) (cares : List Care) (w w' : WorkerNow) (net net' : NetState) (records : List Told) (graves : List Grave) (turns : ℕ)
      (x : Stopped)
      → Makes plans moments came cares w net records graves turns → (k : StopsOne w w' net net' x) → StoodLast moments k.session
      → Makes plans moments came cares w' net' (records ++ lines_of x.served (Some x.left)) (graves ++ stop_graves w w' net net' x k) turns
