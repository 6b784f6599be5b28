-- What a call of the caretaker did, at one seat and at all seats of a thread.
use Rattle.std.specs.Prelude.{◌≡◌, ℕ, ◌+◌, List, [], ◌∷◌, ◌++◌, length, ⊤}
use Rattle.hx_link.specs.Told.{LinkState}
use Rattle.hx_link.specs.Nets.{NetState}
use Rattle.hx_pool.specs.SeatView.{History}
use Rattle.hx_caretaker.specs.Sweeps.{Sweep, BuriesAll}

-- at one seat a sweep was made, as P says: the links of what was closed are buried, and it answers how many these were
pub record CaresFor (P : History → History → Sweep → Type 0) (old new : History) (net net' : NetState) (count : ℕ)
    : Type 0 where
  pub sweep : Sweep
  pub does : P old new sweep
  pub buries : BuriesAll sweep.links net net'
  pub counts : count ≡ length sweep.swept

-- each seat, with its number counted on from i, and its sweep are as P says
abbrev pub EachSweep : (ℕ → History → History → Sweep → Type 0) → ℕ → List History → List History → List Sweep
    → Type 0
EachSweep P i [] [] [] = ⊤
EachSweep P i (h ∷ old) (k ∷ new) (x ∷ sweeps) = P i h k x × EachSweep P (i + 1) old new sweeps
EachSweep P i old new sweeps = ⊥

-- the links of what was closed, seat by seat
abbrev pub all_links : List Sweep → List LinkState
all_links [] = []
all_links (x ∷ sweeps) = x.links ++ all_links sweeps

-- how many connections were closed
abbrev pub count_swept : List Sweep → ℕ
count_swept [] = 0
count_swept (x ∷ sweeps) = length x.swept + count_swept sweeps

-- at each seat a sweep was made, as P says: the links of what was closed are buried, and it answers how many these were
pub record CaresForAll (P : ℕ → History → History → Sweep → Type 0) (old new : List History) (net net' : NetState)
    (count : ℕ) : Type 0 where
  pub sweeps : List Sweep
  pub each : EachSweep P 0 old new sweeps
  pub buries : BuriesAll (all_links sweeps) net net'
  pub counts : count ≡ count_swept sweeps
