-- What stands between the calls of sessions of one thread that come one after the other.
use Rattle.std.specs.Prelude.{◌≡◌, ℕ, List, [], ◌∷◌}
use Rattle.hx_config.specs.Meaning.{Meaning}
use Rattle.hx_connecting.specs.Sessions.{SessionNow}
use Rattle.hx_link.specs.Nets.{NetState}
use Rattle.hx_plain.specs.PlainSeat.{first_thread}
use Rattle.hx_pool.specs.SeatView.{History}
use Rattle.hx_worker.specs.Workers.{HasSeats, HasSessions, worker_now, last_number}

-- the seats serve the configuration's servers and hold just what these sessions have, each of which goes on; the turns fit, and the
-- net's loop is that of the first thread
pub record IsBench (config : Meaning) (seats : List History) (turns : List ℕ) (net : NetState) (sessions : List SessionNow) : Type 0 where
  pub has : HasSessions (worker_now first_thread config seats [] turns last_number sessions)
  pub held : HasSeats (worker_now first_thread config seats [] turns last_number sessions)
  pub loop : net.loop_no ≡ 0

-- nobody is there
abbrev pub IsEmpty : Meaning → List History → List ℕ → NetState → Type 0
IsEmpty config seats turns net = IsBench config seats turns net []

-- this session goes on
abbrev pub IsVisit : Meaning → List History → List ℕ → NetState → SessionNow → Type 0
IsVisit config seats turns net s = IsBench config seats turns net (s ∷ [])
