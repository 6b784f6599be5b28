-- Which sessions stand still: they didn't move in a step at a moment, and are as that step left them.
use Rattle.std.specs.Prelude.{◌≡◌, ◌⊎◌, ◌<◌, ℕ, List, [], ◌∷◌, ◌++◌, Contains, Some}
use Rattle.hx_base.specs.declared.numbers.Millis.{Millis}
use Rattle.hx_base.specs.declared.numbers.SessionNo.{SessionNo}
use Rattle.hx_connecting.specs.Sessions.{SessionNow}
use Rattle.hx_session.specs.Standstill.{Stands}
use Rattle.hx_worker.specs.Workers.{WorkerNow, NumbersRise, session_of}
use Rattle.hx_run.specs.Runs.{RunNow}

-- the session didn't move in a step at the moment, and is as that left it
abbrev pub StoodAt : Millis → SessionNow → Type 0
StoodAt now s = (before : SessionNow) × Stands before s now.0

-- each session that is there stood still at the moment
abbrev pub AllStood : Millis → WorkerNow → Type 0
AllStood now w = (s : SessionNow) → Contains w.sessions s → StoodAt now s

-- a session stood still at the last of these moments
pub record StoodLast (moments : List Millis) (s : SessionNow) : Type 0 where
  pub earlier : List Millis
  pub now : Millis
  pub last : moments ≡ earlier ++ now ∷ []
  pub stood : StoodAt now s

-- so did each session that is there
abbrev pub AllStoodLast : List Millis → WorkerNow → Type 0
AllStoodLast moments w = (s : SessionNow) → Contains w.sessions s → StoodLast moments s

-- the numbers of its sessions rise
abbrev pub Rise : WorkerNow → Type 0
Rise w = NumbersRise 0 w.sessions w.last

-- calls for the session of one number: the others stay as they are
pub record LeavesOthers (n : SessionNo) (a b : RunNow) : Type 0 where
  pub rise : Rise a.worker → Rise b.worker
  pub others : (m : ℕ) → (m ≡ n.0 → ⊥) → session_of b.worker.sessions m ≡ session_of a.worker.sessions m

-- and where they made no turn, that session stood still
pub record StandsAlone (now : Millis) (n : SessionNo) (a b : RunNow) : Type 0 where
  pub leaves : LeavesOthers n a b
  pub stands : b.turns ≡ a.turns → Rise a.worker → (s : SessionNow) → session_of b.worker.sessions n.0 ≡ Some s → StoodAt now s

-- where no turn was made since, each session up to a number stood still
abbrev pub StoodUpTo : Millis → RunNow → RunNow → ℕ → Type 0
StoodUpTo now a b up =
    b.turns ≡ a.turns → Rise b.worker → (m : ℕ) (s : SessionNow) → session_of b.worker.sessions m ≡ Some s
    → (m ≡ up) ⊎ (m < up) → StoodAt now s

-- stops leave the sessions that they don't stop
abbrev pub StaysStood : RunNow → RunNow → Type 0
StaysStood a b = (moments : List Millis) → AllStoodLast moments a.worker → AllStoodLast moments b.worker
