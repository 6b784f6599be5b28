-- How sessions come to a worker, and in which order they are met.
use Rattle.std.specs.Prelude.{◌≡◌, ℕ, ◌+◌, ◌<◌, nat_lt, if◌then◌else◌, List, [], ◌∷◌, ◌++◌, length, Option, Some, None}
use Rattle.hx_base.specs.declared.numbers.Millis.{Millis}
use Rattle.hx_base.specs.declared.numbers.SessionNo.{SessionNo}
use Rattle.hx_link.specs.Told.{LinkState}
use Rattle.hx_connecting.specs.Sessions.{SessionNow, admitted}
use Rattle.hx_session.specs.Stages.{IsNewClient}
use Rattle.hx_worker.specs.declared.answers.NoEntry.{NoEntry}
use Rattle.hx_worker.specs.declared.answers.NoEntry.TheVariants.{SessionsFull, NumbersSpent, NoMemory}
use Rattle.hx_worker.specs.Workers.{WorkerNow, most_sessions, last_number}

-- a client that may be admitted: its link is attached to the worker's loop, no byte was moved over it, and its
-- frontend is one of the configuration's
pub record IsAdmissible (w : WorkerNow) (client : LinkState) (front : ℕ) : Type 0 where
  pub loop : client.on_loop ≡ Some w.thread.0
  pub new : IsNewClient client
  pub is_front : front < length w.config.fronts

-- the client's session is the last one, and has the next number; nothing else changes
pub record Admits (w w' : WorkerNow) (client : LinkState) (front : ℕ) (now : Millis) (n : SessionNo) : Type 0 where
  pub room : length w.sessions < most_sessions
  pub left : w.last < last_number
  pub number : n.0 ≡ w.last + 1
  pub admits : w' ≡ record w { last = w.last + 1; sessions = w.sessions ++ admitted w.thread n front now.0 client ∷ [] }

-- why a client isn't admitted, the first cause that applies
abbrev pub RefusesFor : WorkerNow → NoEntry → Type 0
RefusesFor w SessionsFull = length w.sessions ≡ most_sessions
RefusesFor w NumbersSpent = (length w.sessions < most_sessions) × (w.last ≡ last_number)
RefusesFor w NoMemory = (length w.sessions < most_sessions) × (w.last < last_number)

-- the least number above n
abbrev pub next_above : List SessionNow → ℕ → Option SessionNo
next_above [] n = None
next_above (s ∷ sessions) n = if nat_lt n s.number.0 then Some s.number else next_above sessions n
