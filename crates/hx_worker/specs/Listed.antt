-- Private: a worker's sessions under their numbers.
use Rattle.std.specs.Prelude.{◌≡◌, ℕ, List, [], ◌∷◌, map, ⊤}
use Rattle.hx_connecting.specs.Sessions.{SessionNow}
use Rattle.hx_worker.specs.Workers.{WorkerNow, HasSessions}

-- the sessions
abbrev pub sessions_of : List (ℕ × SessionNow) → List SessionNow
sessions_of items = map (λ x. x.1) items

-- each stands under its number
abbrev pub AreUnderTheirs : List (ℕ × SessionNow) → Type 0
AreUnderTheirs [] = ⊤
AreUnderTheirs (x ∷ items) = (x.1.number.0 ≡ x.0) × AreUnderTheirs items

-- a sound worker
pub record IsSound (w : WorkerNow) (items : List (ℕ × SessionNow)) : Type 0 where
  pub under : AreUnderTheirs items
  pub has : HasSessions w
