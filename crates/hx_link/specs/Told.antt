-- What a source, a sink and a link tell of themselves. Contracts alone speak of it.
-- Counts of faults and of waits are kept in a u64 and stand still at its end.
use Rattle.std.specs.Prelude.{◌≡◌, ℕ, ◌-◌, ◌^◌, ◌≤◌, Bool, List, length, Option, IfSome}
use Rattle.hx_base.specs.Counts.{Rose}
use Rattle.hx_base.specs.declared.plan.Plan.{Plan}

-- what a source tells
pub record SourceState : Type 0 where
  -- how often it failed
  pub faults : ℕ
  -- the bytes that it has left, where it tells them
  pub left : Option (List ℕ)
  pub told_end : Bool

-- what a sink tells
pub record SinkState : Type 0 where
  pub faults : ℕ
  -- all bytes that it took, where it tells them
  pub taken : Option (List ℕ)

-- what a link tells
pub record LinkState : Type 0 where
  pub faults : ℕ
  -- how often a read had to wait, and the moment of the last such read
  pub read_waits : ℕ
  pub read_wait_at : ℕ
  -- a read had to wait, and no byte was given or taken since
  pub read_waited : Bool
  -- how often a write had to wait, and the moment of the last such write
  pub write_waits : ℕ
  pub write_wait_at : ℕ
  -- how many bytes were taken of it by reads, and sent on it by writes
  pub taken_count : ℕ
  pub sent_count : ℕ
  -- these bytes, where it tells them
  pub taken : Option (List ℕ)
  pub sent : Option (List ℕ)
  -- how many bytes the last read asked for, and how many the last write offered
  pub read_length : ℕ
  pub write_length : ℕ
  pub told_end : Bool
  -- it was told that nothing more will be written
  pub finished : Bool
  -- the loop that it is attached to, or none
  pub on_loop : Option ℕ
  -- its tag, where it tells one
  pub tag : Option ℕ
  -- the server and the id of its dial, where it tells them
  pub dial : Option (ℕ × ℕ)
  -- the plan that it follows, where it tells one
  pub plan : Option Plan

-- a fault or a wait was counted: the count rose, or stands at its end, and didn't fall
abbrev pub CountsOne : ℕ → ℕ → Type 0
CountsOne before now = (before ≤ now) × Rose before now

-- the bytes that a link tells are as many as it counts
pub record IsCounted (l : LinkState) : Type 0 where
  pub taken : IfSome l.taken (λ bytes. length bytes ≡ l.taken_count)
  pub sent : IfSome l.sent (λ bytes. length bytes ≡ l.sent_count)

-- the most bytes that are taken of a link, and the most that are sent on it
abbrev pub most_bytes : ℕ
most_bytes = 2 ^ 63 - 1
