-- What a seat means to its callers, and what every call of it owes.
use Rattle.std.specs.Prelude.{◌≡◌, ◌≢◌, ℕ, ◌+◌, ◌<◌, ◌≤◌, ◌⊎◌, List, [], ◌∷◌, ◌++◌, length, option_to_list, Option, None}
use Rattle.hx_base.specs.declared.numbers.ThreadNo.{ThreadNo}
use Rattle.hx_base.specs.declared.numbers.ServerNo.{ServerNo}
use Rattle.hx_base.specs.declared.numbers.Millis.{Millis}
use Rattle.hx_base.specs.declared.rules.PoolRules.{PoolRules}
use Rattle.atomic_table.specs.Seated.{TableId}
use Rattle.hx_pool.specs.declared.board.BoardTerms.{BoardTerms}
use Rattle.hx_pool.specs.declared.entries.Entry.{Entry}
use Rattle.hx_pool.specs.declared.entries.Note.{Note}
use Rattle.hx_pool.specs.declared.entries.LastMarks.{LastMarks}
use Rattle.hx_pool.specs.History.{thread_of, own_of, marks_of, IsLegal, IsEven}
use Rattle.hx_pool.specs.Rules.{KeepsMode, KeepsLimit}

-- what no call changes; board is a name that the seats of one board alone share
pub record About : Type 0 where
  pub thread : ThreadNo
  pub rules : PoolRules
  pub board : TableId
  pub threads : ℕ
  pub start : Millis
  pub server : ServerNo

-- a seat of a board with these terms
abbrev pub about_of : BoardTerms → ThreadNo → TableId → About
about_of terms t board = record { thread = t; rules = terms.rules; board = board; threads = terms.threads; start = terms.start; server = terms.server }

-- seen: what the seat has observed of its table's history; mine: its own entries, in order;
-- passed: how many places its drain has passed since its last SetGate that is draining, where it made one
pub record History : Type 0 where
  pub about : About
  pub seen : List Note
  pub mine : List Note
  pub passed : Option ℕ

-- each entry's thread is below this number
abbrev pub AllBelow : ℕ → List Note → Type 0
AllBelow threads [] = Unit {0}
AllBelow threads (x ∷ xs) = ((thread_of x.entry).0 < threads) × AllBelow threads xs

-- seen is one legal history that keeps the rules, and has just mine of this thread
pub record IsOneHistory (a : About) (seen mine : List Note) : Type 0 where
  pub legal : IsLegal seen
  pub mode : KeepsMode a.rules seen
  pub limit : KeepsLimit a.rules seen
  pub own_part : own_of a.thread seen ≡ mine
  pub threads : AllBelow a.threads seen
  pub inside : (a.thread.0 < a.threads) × (a.threads ≤ 16)

-- the seat's own entries stand in one legal history
abbrev pub StandsInOneHistory : History → Type 0
StandsInOneHistory h = IsOneHistory h.about h.seen h.mine

-- the call makes these entries and no others of its own; seen may also gain entries of others
pub record Makes (old new : History) (added : List Note) : Type 0 where
  pub about : new.about ≡ old.about
  pub mine : new.mine ≡ old.mine ++ added
  pub seen : (between : List Note) × (new.seen ≡ old.seen ++ between)
  pub was : StandsInOneHistory old
  pub one : StandsInOneHistory new
  pub even : IsEven added

-- the same, and the seat's drain stands where it stood
pub record Calls (old new : History) (added : List Note) : Type 0 where
  pub makes : Makes old new added
  pub passed : new.passed ≡ old.passed

-- the marks that a call left
abbrev pub last_list : LastMarks → List Entry
last_list l = option_to_list l.first ++ option_to_list l.second

-- a call makes so many entries, and its marks are told
pub record Grows (old new : History) (last : List Entry) : Type 0 where
  pub added : List Note
  pub makes : Makes old new added
  pub marks : last ≡ marks_of added
  pub few : length added ≤ 4096

-- a journal stays as whole as it was, or is not whole any more
abbrev pub StillKept : Option ℕ → Option ℕ → Type 0
StillKept old new = (new ≡ old) ⊎ (new ≡ None)

-- a journal stays as whole as it was where there is room for the marks of the call, which they alone use up
pub record Stores (kept kept' : Option ℕ) (spare spare' : ℕ) (last : List Entry) : Type 0 where
  pub still : StillKept kept kept'
  pub fits : length last ≤ spare → (kept' ≡ kept) × (spare ≤ spare' + length last)

-- two seats of one board
pub record AreOfOneBoard (a b : History) : Type 0 where
  pub board : a.about.board ≡ b.about.board
  pub apart : a.about.thread.0 ≢ b.about.thread.0

-- the other has seen what it had seen, and what the first had
pub record Tells (first other new : History) : Type 0 where
  pub makes : Calls other new []
  pub told : (more : List Note) × (new.seen ≡ first.seen ++ more)
