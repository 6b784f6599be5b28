-- What a bench keeps between its calls.
use Rattle.std.specs.Prelude.{◌≡◌, ℕ, Some, length}
use Rattle.hx_link.specs.MemoryNets.{MemoryNetNow}
use Rattle.hx_link.specs.Told.{LinkState}
use Rattle.hx_plain.specs.PlainSeat.{first_thread}
use Rattle.hx_session.specs.Stages.{IsNewClient}
use Rattle.hx_worker.specs.Workers.{WorkerNow, HasSeats}

-- the worker, its net, and how many frontends there are
pub record BenchNow : Type 0 where
  pub worker : WorkerNow
  pub net : MemoryNetNow
  pub fronts : ℕ

-- a bench of these
abbrev pub bench_now : WorkerNow → MemoryNetNow → ℕ → BenchNow
bench_now worker net fronts = record { worker = worker; net = net; fronts = fronts }

-- the worker is that of the first thread and its seats hold what its sessions have, the net's loop is its, and it has so many frontends
pub record IsBench (w : WorkerNow) (net : MemoryNetNow) (fronts : ℕ) : Type 0 where
  pub thread : w.thread ≡ first_thread
  pub seats : HasSeats w
  pub loop : net.state.loop_no ≡ 0
  pub count : fronts ≡ length w.config.fronts

-- a client's link on that loop, over which nothing moved
pub record IsFresh (link : LinkState) : Type 0 where
  pub loop : link.on_loop ≡ Some 0
  pub new : IsNewClient link
