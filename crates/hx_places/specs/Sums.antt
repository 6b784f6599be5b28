-- The count is what rests and what threads still owe it, and no more rest than may.
use Rattle.std.specs.Prelude.{◌≡◌, ℕ, zero, suc, ◌+◌, ◌≤◌, nat_lt, cond, List, Option, Some}
use Rattle.hx_base.specs.declared.numbers.ThreadNo.{ThreadNo}
use Rattle.hx_pool.specs.declared.board.BoardTerms.{BoardTerms}
use Rattle.hx_pool.specs.declared.entries.Note.{Note}
use Rattle.hx_pool.specs.History.{table_after, own_of}
use Rattle.hx_places.specs.Turns.{Due, Settled, WentUp, HasTaken, turn_of}

-- the thread of this number
abbrev pub thread_at : ℕ → ThreadNo
thread_at k = record { 0 = k }

-- the sum of f over the numbers below k
abbrev pub sum_below : ℕ → (ℕ → ℕ) → ℕ
sum_below zero f = 0
sum_below (suc k) f = sum_below k f + f k

-- by how much the count is above what rests for a thread: its Up without its Park or Down, or its Take without its Down
abbrev pub owed : Due → ℕ
owed Settled = 0
owed (WentUp old) = 1
owed HasTaken = 1

-- how many a thread may still park under this greatest number: one where its Up was below it
abbrev pub still_parks : ℕ → Due → ℕ
still_parks m Settled = 0
still_parks m (WentUp old) = cond (nat_lt old m) 1 0
still_parks m HasTaken = 0

-- the count is what rests and what is owed, and what rests and what was admitted is at most the greatest number
pub record Sums (max : Option ℕ) (threads count resting : ℕ) (due : ℕ → Due) : Type 0 where
  pub count_is : count ≡ resting + sum_below threads (λ t. owed (due t))
  pub within : (m : ℕ) → max ≡ Some m → resting + sum_below threads (λ t. still_parks m (due t)) ≤ m

-- what each thread owes the count after a history
abbrev pub dues : List Note → ℕ → Due
dues H t = (turn_of (own_of (thread_at t) H)).due

-- the sums of the table after a history
abbrev pub SumsAfter : BoardTerms → List Note → Type 0
SumsAfter b H = Sums b.rules.max b.threads (table_after H).count (table_after H).resting (dues H)
