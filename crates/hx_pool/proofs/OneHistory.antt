-- That a seat stands in one history is a proposition.
use Rattle.std.proofs.Common.{ℕ, List, [], ◌∷◌}
use native.Mathlib.Nat.{ℕ_set}
use native.Mathlib.Bridge.{le_prop}
use mathlib.Core.Sum.{⊎_set}
use mathlib.Core.Bool.{Bool-set}
use std.List.{List-set}
use Rattle.hx_pool.specs.declared.entries.Entry.{Entry}
use Rattle.hx_pool.specs.declared.entries.Note.{Note}
use Rattle.hx_pool.specs.declared.entries.Entry.TheVariants.{Open, Park, Take, Free, Close, Look, Up, Down, Count, Gate, SetGate, Round}
use Rattle.hx_pool.specs.Table.{Table, Needs, after, empty_table}
use Rattle.hx_pool.specs.History.{EachStep, MeetsNeeds}
use Rattle.hx_pool.specs.Rules.{MayFollow, IsBelowMax}
use Rattle.hx_pool.specs.SeatView.{About, IsOneHistory, AllBelow}
use Rattle.std.specs.Coded.{Coded-set, codes}
use Rattle.std.specs.Prelude.{Option, Some, None, IfSome, ◌≤◌}
use Rattle.hx_base.specs.declared.rules.Mode.{Mode}

pub needs_prop : (T : Table) (e : Entry) → IsProp (Needs T e)
needs_prop T (Open t n id) = hlevel (ℕ_set, le_prop, ⊎_set)
needs_prop T (Park t n id place uses) = hlevel (ℕ_set, le_prop, ⊎_set)
needs_prop T (Take t n first place id uses) = hlevel (ℕ_set, le_prop, ⊎_set)
needs_prop T (Free t place) = hlevel (ℕ_set, le_prop, ⊎_set)
needs_prop T (Close t n id) = hlevel (ℕ_set, le_prop, ⊎_set)
needs_prop T (Look t place found) = hlevel (ℕ_set, le_prop, ⊎_set)
needs_prop T (Up t old) = hlevel (ℕ_set, le_prop, ⊎_set)
needs_prop T (Down t old) = hlevel (ℕ_set, le_prop, ⊎_set)
needs_prop T (Count t c) = hlevel (ℕ_set, le_prop, ⊎_set)
needs_prop T (Gate t draining) = hlevel (ℕ_set, le_prop, ⊎_set)
needs_prop T (SetGate t draining) = hlevel
needs_prop T (Round t k old) = hlevel (ℕ_set, le_prop, ⊎_set)

follow_prop : (m : Mode) (T : Table) (e : Entry) → IsProp (MayFollow m T e)
follow_prop m T (Park t n id place uses) = hlevel
follow_prop m T (Take t n first place id uses) = hlevel (Bool-set)
follow_prop m T (Open t n id) = hlevel
follow_prop m T (Free t place) = hlevel
follow_prop m T (Close t n id) = hlevel
follow_prop m T (Look t place found) = hlevel
follow_prop m T (Up t old) = hlevel
follow_prop m T (Down t old) = hlevel
follow_prop m T (Count t c) = hlevel
follow_prop m T (Gate t draining) = hlevel
follow_prop m T (SetGate t draining) = hlevel
follow_prop m T (Round t k old) = hlevel

below_prop : (o : Option ℕ) (k : ℕ) → IsProp (IfSome o (λ m. k ≤ m))
below_prop None k = hlevel
below_prop (Some m) k = hlevel (le_prop)

pub each_prop : (P : Table → Note → Type 0) → ((T : Table) (x : Note) → IsProp (P T x)) → (T : Table) (xs : List Note) → IsProp (EachStep P T xs)
each_prop P one T [] = hlevel
each_prop P one T (x ∷ xs) = hlevel (one T x, each_prop P one (after T x) xs)

all_prop : (k : ℕ) (xs : List Note) → IsProp (AllBelow k xs)
all_prop k [] = hlevel
all_prop k (x ∷ xs) = hlevel (le_prop, all_prop k xs)

-- so a struct may keep it in a ghost field
pub one_history_prop : (a : About) (seen mine : List Note) → IsProp (IsOneHistory a seen mine)
one_history_prop a seen mine = hlevel (
  each_prop MeetsNeeds (λ T x. needs_prop T x.entry) empty_table seen,
  each_prop (λ T x. MayFollow a.rules.mode T x.entry) (λ T x. follow_prop a.rules.mode T x.entry) empty_table seen,
  each_prop (λ T x. IsBelowMax a.rules (after T x)) (λ T x. below_prop a.rules.max (after T x).resting) empty_table seen,
  all_prop a.threads seen,
  le_prop,
  ℕ_set,
  Bool-set,
  List-set,
  ⊎_set,
  Coded-set,
  codes,
)
