-- What the caretaker's work leaves of who holds which connection.
use Rattle.std.specs.Prelude.{◌≡◌, ◌≢◌, List, [], ◌∷◌, ⊤}
use Rattle.hx_base.specs.declared.numbers.SessionNo.{SessionNo}
use Rattle.hx_pool.specs.Causes.{caretaker}
use Rattle.hx_pool.specs.Held.{held_by}
use Rattle.hx_pool.specs.SeatView.{History, StandsInOneHistory}

-- the seat is of the same board and stands in one history, each session holds there what it held, and the caretaker
-- holds nothing where it held nothing
pub record HoldsOn (old new : History) : Type 0 where
  pub about : new.about ≡ old.about
  pub one : StandsInOneHistory old → StandsInOneHistory new
  pub others : (n : SessionNo) → n.0 ≢ 0 → held_by new.mine n ≡ held_by old.mine n
  pub lets_go : held_by old.mine caretaker ≡ [] → held_by new.mine caretaker ≡ []

-- the same of each seat
abbrev pub AllHoldOn : List History → List History → Type 0
AllHoldOn [] [] = ⊤
AllHoldOn (h ∷ old) (k ∷ new) = HoldsOn h k × AllHoldOn old new
AllHoldOn old new = ⊥
