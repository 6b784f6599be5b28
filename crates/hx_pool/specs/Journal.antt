-- A seat whose marks are stored.
use Rattle.std.specs.Prelude.{◌≡◌, ℕ, ◌-◌, Bool, true, cond, List, ◌++◌, length, drop, Option, Some, None}
use Rattle.hx_pool.specs.declared.entries.Entry.{Entry}
use Rattle.hx_pool.specs.History.{marks_of}
use Rattle.hx_pool.specs.SeatView.{History}

-- the seat's history and the marks of its last call, the stored marks, whether each was stored since the last clear,
-- and for how many more there is room
pub record Journal : Type 0 where
  pub history : History
  pub last : List Entry
  pub stored : List Entry
  pub whole : Bool
  pub room : ℕ

-- where the journal is whole, the stored marks are the last ones of mine
abbrev pub EndsWithStored : History → List Entry → Bool → Type 0
EndsWithStored h stored whole = whole ≡ true → (before : List Entry) × (marks_of h.mine ≡ before ++ stored)

-- where the journal is whole: how many marks were made before it began
abbrev pub journal_from : Journal → Option ℕ
journal_from j = cond j.whole (Some (length (marks_of j.history.mine) - length j.stored)) None

-- where the journal is whole, the stored marks are those that were made since it began
abbrev pub RecountsMarks : Journal → Type 0
RecountsMarks j = j.whole ≡ true → j.stored ≡ drop (length (marks_of j.history.mine) - length j.stored) (marks_of j.history.mine)
