-- What a worker shows to contracts, and what holds between its calls: each connection that its seats hold for a
-- session is that session's, and each link in use is attached to its loop.
use Rattle.std.specs.Prelude.{◌≡◌, ℕ, ◌==◌, ◌≤◌, ◌<◌, ◌^◌, ◌-◌, if◌then◌else◌, List, [], ◌∷◌, length, replicate, Option, Some, None, slice_get, ⊤}
use Rattle.hx_base.specs.declared.numbers.ThreadNo.{ThreadNo}
use Rattle.hx_base.specs.declared.numbers.SessionNo.{SessionNo}
use Rattle.hx_config.specs.Meaning.{Meaning}
use Rattle.hx_config.specs.Limits.{all_servers}
use Rattle.hx_pool.specs.SeatView.{History, StandsInOneHistory}
use Rattle.hx_connecting.specs.Holds.{HasJust, conn_at}
use Rattle.hx_connecting.specs.Journals.{JournalRoom}
use Rattle.hx_connecting.specs.Sessions.{SessionNow, Holding}
use Rattle.hx_session.specs.Fits.{IsGoing, TurnsFit, SeatsServe}

-- a worker
pub record WorkerNow : Type 0 where
  pub thread : ThreadNo
  pub config : Meaning
  -- by server
  pub seats : List History
  pub journals : List JournalRoom
  -- by backend: at which of its servers the next choice begins
  pub turns : List ℕ
  -- the greatest number that was given to a session
  pub last : ℕ
  -- by rising number
  pub sessions : List SessionNow

-- a worker of these
abbrev pub worker_now : ThreadNo → Meaning → List History → List JournalRoom → List ℕ → ℕ → List SessionNow → WorkerNow
worker_now thread config seats journals turns last sessions = record {
  thread = thread;
  config = config;
  seats = seats;
  journals = journals;
  turns = turns;
  last = last;
  sessions = sessions;
}

-- P holds of each
abbrev pub Each : {A : Type 0} → (A → Type 0) → List A → Type 0
Each P [] = ⊤
Each P (x ∷ xs) = P x × Each P xs

-- the session of that number
abbrev pub session_of : List SessionNow → ℕ → Option SessionNow
session_of [] n = None
session_of (s ∷ sessions) n = if s.number.0 == n then Some s else session_of sessions n

-- the connection that it has to that server; none for a session that isn't there
abbrev pub held_of : Option SessionNow → ℕ → Option Holding
held_of None i = None
held_of (Some s) i = conn_at s.conn i

-- for each server and each number its seat holds just the connection that the session of that number has to that
-- server: none for a number that isn't there, and none for the caretaker
abbrev pub OwnsAll : List History → List SessionNow → Type 0
OwnsAll seats sessions =
    (i : ℕ) (h : History) (n : SessionNo) → slice_get seats i ≡ Some h
    → HasJust h n (held_of (session_of sessions n.0) i)

-- the numbers of the sessions rise, the first above n and the last at most m
abbrev pub NumbersRise : ℕ → List SessionNow → ℕ → Type 0
NumbersRise n [] m = n ≤ m
NumbersRise n (s ∷ sessions) m = (n < s.number.0) × NumbersRise s.number.0 sessions m

-- a session of this worker that is going on
pub record IsOurs (t : ThreadNo) (config : Meaning) (s : SessionNow) : Type 0 where
  pub its : s.worker ≡ t
  pub going : IsGoing config s

-- the most sessions that a worker has at a time
abbrev pub most_sessions : ℕ
most_sessions = 1024

-- the greatest number of a session
abbrev pub last_number : ℕ
last_number = 2 ^ 32 - 1

-- what always holds of a worker's sessions and turns
pub record HasSessions (w : WorkerNow) : Type 0 where
  pub rise : NumbersRise 0 w.sessions w.last
  pub few : length w.sessions ≤ most_sessions
  pub most : w.last ≤ last_number
  pub ours : Each (IsOurs w.thread w.config) w.sessions
  pub turns : TurnsFit w.config w.turns

-- what a worker's calls ask of its seats and keep: they are those of the configuration's servers, each in one history,
-- and they hold what its sessions have. Each call asks anew, since a caller who was lent a seat may have changed it
pub record HasSeats (w : WorkerNow) : Type 0 where
  pub serve : SeatsServe w.thread w.seats (all_servers w.config.backs)
  pub owns : OwnsAll w.seats w.sessions
  pub one : Each StandsInOneHistory w.seats

-- a worker before its first call: nobody is there, and each turn is 0
abbrev pub new_worker : ThreadNo → Meaning → List History → List JournalRoom → WorkerNow
new_worker t config seats journals = worker_now t config seats journals (replicate (length config.backs) 0) 0 []

-- a call leaves its thread, its configuration, and which numbers were given
pub record StaysWorker (w w' : WorkerNow) : Type 0 where
  pub thread : w'.thread ≡ w.thread
  pub config : w'.config ≡ w.config
  pub last : w'.last ≡ w.last
