-- Exactly when each answer of a link in memory comes, and how many bytes a call moves.
use Rattle.std.specs.Prelude.{◌≡◌, ◌⊎◌, ℕ, ◌-◌, min, Bool, true, false, nat_le, ◌||◌, ◌==◌}
use Rattle.hx_link.specs.declared.answers.Got.{Got}
use Rattle.hx_link.specs.declared.answers.Put.{Put}
use Rattle.hx_link.specs.declared.answers.Got.TheVariants as got
use Rattle.hx_link.specs.declared.answers.Put.TheVariants as put
use Rattle.hx_link.specs.Told.{most_bytes}
use Rattle.hx_link.specs.Planned.{left_of_piece, is_ready, fails_at, room_in}
use Rattle.hx_link.specs.MemorySources.{next_call}
use Rattle.hx_link.specs.MemoryLinks.{MemoryLinkNow}

-- the plan fails the next call, or no byte more may be taken
abbrev pub read_fails : MemoryLinkNow → Bool
read_fails m = fails_at m.plan.fail (next_call m.calls) || nat_le most_bytes m.state.taken_count

-- a piece or the end is due
abbrev pub is_due : MemoryLinkNow → ℕ → Bool
is_due m now = is_ready m.plan m.state.taken_count m.state.sent_count now

-- how many bytes the next piece has left
abbrev pub left_now : MemoryLinkNow → ℕ
left_now m = left_of_piece m.plan.pieces m.state.taken_count

-- all pieces were taken
abbrev pub is_spent : MemoryLinkNow → Bool
is_spent m = left_now m == 0

-- exactly when each answer of a read comes; the bytes are those of one piece, as many as fit
abbrev pub ReadAnswers : MemoryLinkNow → ℕ → ℕ → Got → Type 0
ReadAnswers m now room got.Failed = read_fails m ≡ true
ReadAnswers m now room got.End =
    (read_fails m ≡ false) × ((m.state.told_end ≡ true) ⊎ ((is_due m now ≡ true) × (is_spent m ≡ true)))
ReadAnswers m now room got.NotYet = (read_fails m ≡ false) × (m.state.told_end ≡ false) × (is_due m now ≡ false)
ReadAnswers m now room (got.Bytes n) =
    (read_fails m ≡ false) × (m.state.told_end ≡ false) × (is_due m now ≡ true) × (is_spent m ≡ false)
    × (n ≡ min (min (left_now m) room) (most_bytes - m.state.taken_count))

-- a read at a moment into so much room is counted, keeps the plan, and answers as said
pub record MemoryReads (old new : MemoryLinkNow) (now room : ℕ) (result : Got) : Type 0 where
  pub plan : new.plan ≡ old.plan
  pub calls : new.calls ≡ next_call old.calls
  pub starved : new.starved ≡ old.starved
  pub answers : ReadAnswers old now room result

-- the plan fails the next call, or no byte more may be sent
abbrev pub write_fails : MemoryLinkNow → Bool
write_fails m = fails_at m.plan.fail (next_call m.calls) || nat_le most_bytes m.state.sent_count

-- exactly when each answer of a write comes, but that want of memory fails it too, and then it is starved from then on
abbrev pub WriteAnswers : MemoryLinkNow → MemoryLinkNow → ℕ → Put → Type 0
WriteAnswers old new count (put.Bytes n) =
    (write_fails old ≡ false) × (old.starved ≡ false) × (new.starved ≡ false)
    × (n ≡ min (room_in old.plan.room count) (most_bytes - old.state.sent_count))
WriteAnswers old new count put.NotYet = ⊥
WriteAnswers old new count put.Failed =
    ((write_fails old ≡ true) × (new.starved ≡ old.starved)) ⊎ ((write_fails old ≡ false) × (new.starved ≡ true))

-- a write of so many bytes is counted, keeps the plan, and answers as said
pub record MemoryWrites (old new : MemoryLinkNow) (count : ℕ) (result : Put) : Type 0 where
  pub plan : new.plan ≡ old.plan
  pub calls : new.calls ≡ next_call old.calls
  pub answers : WriteAnswers old new count result
