-- Private: the rule of a board. There is one history, which the rules allow, and each seat has seen a beginning of it.
-- Where the value is at home, it says what the table after the history says. Where it is away, the entries that its
-- holder made stand behind the history, and come to it when the value comes back.
use Rattle.std.specs.Prelude.{◌≡◌, ℕ, ◌+◌, ◌%◌, ◌^◌, ◌<◌, ◌≤◌, true, List, [], ◌∷◌, ◌++◌, length, slice_index, Option, Some, None}
use mathlib.Core.Option.{some, none}
use lib.ListN.{get_elem?}
use Rattle.atomic_table.specs.Table.{State}
use Rattle.hx_base.specs.declared.numbers.ThreadNo.{ThreadNo}
use Rattle.hx_base.specs.Shown.{Shown}
use Rattle.hx_pool.specs.declared.board.BoardTerms.{BoardTerms}
use Rattle.hx_pool.specs.declared.entries.Note.{Note}
use Rattle.hx_pool.specs.History.{thread_of, own_of}
use Rattle.hx_resting.specs.declared.values.Rows.{Rows}
use Rattle.hx_resting.specs.declared.roles.View.{View}
use Rattle.hx_resting.specs.declared.roles.Role.{Role}
use Rattle.hx_resting.specs.declared.roles.Role.TheVariants.{Makes, Works, Copy, Spent}
use Rattle.hx_resting.specs.Rows.{IsRight, IsAfter}

-- the history begins with the list
abbrev pub Begins : List Note → List Note → Type 0
Begins log seen = (rest : List Note) × (log ≡ seen ++ rest)

-- each entry is by this thread
abbrev pub AllBy : ThreadNo → List Note → Type 0
AllBy t [] = Unit {0}
AllBy t (x ∷ xs) = (thread_of x.entry ≡ t) × AllBy t xs

-- the seat's beginning of the history, after which it added nothing
pub record Sees (log : List Note) (v : View) : Type 0 where
  pub rest : List Note
  pub whole : log ≡ v.seen ++ rest
  pub others : own_of v.thread rest ≡ []
  pub own : v.mine ≡ own_of v.thread v.seen
  pub told : Begins log v.told

-- what a seat of each role stands for: the board's own gives the next thread its seat, and a thread has one seat
abbrev pub Knows : ℕ → List Note → (ℕ → ℕ) → ℕ → View → Role → Type 0
Knows given log owner seat v Makes = (seat ≡ 0) × (v.thread.0 ≡ given)
Knows given log owner seat v Works = (v.thread.0 < given) × (owner v.thread.0 ≡ seat) × Sees log v
Knows given log owner seat v Copy = Begins log v.seen
Knows given log owner seat v Spent = Unit {0}

-- a seat that has the value is the holder
pub record Sits (b : BoardTerms) (given : ℕ) (log : List Note) (owner : ℕ → ℕ) (holder : Option ℕ) (seat : ℕ) (v : View) : Type 0 where
  pub knows : Knows given log owner seat v v.role
  pub terms : v.role ≡ Works → v.terms ≡ b
  pub makes : v.role ≡ Makes → v.terms ≡ b
  pub holds : v.out ≡ true → holder ≡ Some seat

-- the holder's own entries stand behind the history
pub record Holds (log : List Note) (noted : ℕ) (v : View) : Type 0 where
  pub works : v.role ≡ Works
  pub out : v.out ≡ true
  pub whole : v.seen ≡ log
  pub count : noted ≡ length log + length v.noted

-- the value is at home, or away with one seat
abbrev pub Lies : {V : Type 0} → (V → Shown) → BoardTerms → State (Option (Rows V)) View → List Note → ℕ → Option ℕ → Type 0
Lies {V} shows b s log noted None = (slice_index s.words 0 ≡ 0) × (noted ≡ length log) × ((rows : Rows V) × (s.homes ≡ some (Some rows) ∷ []) × IsAfter shows b log rows)
Lies {V} shows b s log noted (Some j) = (slice_index s.words 0 ≡ 1) × (s.homes ≡ none ∷ []) × ((v : View) × (get_elem? s.views j ≡ some v) × Holds log noted v)

-- the rule: the history, which seat each thread has, which seat has the value, and how many entries were made
pub record Kept {V : Type 0} (shows : V → Shown) (b : BoardTerms) (s : State (Option (Rows V)) View) : Type 0 where
  pub log : List Note
  pub given : ℕ
  pub owner : ℕ → ℕ
  pub holder : Option ℕ
  pub noted : ℕ
  pub right : IsRight b log
  pub two : length s.words ≡ 2
  pub counts : slice_index s.words 1 ≡ noted % 2 ^ 64
  pub lies : Lies shows b s log noted holder
  pub each_seat : (j : ℕ) (v : View) → get_elem? s.views j ≡ some v → Sits b given log owner holder j v
  pub not_given : (t : ThreadNo) → given ≤ t.0 → own_of t log ≡ []
  pub few_threads : (given ≤ b.threads) × (b.threads ≤ 16)
