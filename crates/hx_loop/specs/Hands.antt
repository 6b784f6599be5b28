-- A worker at work, and what always holds of it.
use Rattle.std.specs.Prelude.{◌≡◌}
use Rattle.hx_config.specs.Meaning.{Meaning}
use Rattle.hx_link.specs.Nets.{NetState}
use Rattle.hx_worker.specs.Workers.{WorkerNow, HasSeats}

-- the worker, its net and its configuration
pub record HandNow : Type 0 where
  pub worker : WorkerNow
  pub net : NetState
  pub config : Meaning

-- a worker at work with these
abbrev pub hand_now : WorkerNow → NetState → Meaning → HandNow
hand_now worker net config = record { worker = worker; net = net; config = config }

-- the net is that of the worker's loop, the seats hold just what the sessions have, and the configuration is the worker's
pub record IsHand (h : HandNow) : Type 0 where
  pub loop : h.net.loop_no ≡ h.worker.thread.0
  pub seats : HasSeats h.worker
  pub config : h.worker.config ≡ h.config
