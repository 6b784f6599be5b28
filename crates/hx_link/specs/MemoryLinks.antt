-- What a link in memory is to a contract, and what always holds of it.
use Rattle.std.specs.Prelude.{◌≡◌, ◌⊎◌, ℕ, ◌<◌, ◌≤◌, Bool, true, false, [], length, take, Option, Some, None, IsSome}
use Rattle.hx_link.specs.Told.{LinkState, most_bytes}
use Rattle.hx_link.specs.Planned.{planned, is_ready, fails_at}
use Rattle.hx_base.specs.declared.plan.Plan.{Plan}

-- a link in memory, as contracts see it
pub record MemoryLinkNow : Type 0 where
  pub plan : Plan
  pub state : LinkState
  -- how many reads and writes there were
  pub calls : ℕ
  -- a write found no memory
  pub starved : Bool

-- what it tells
abbrev pub state_of : MemoryLinkNow → LinkState
state_of l = l.state

-- what a link tells before its first call
abbrev pub new_state : Plan → LinkState
new_state plan = record {
  faults = 0;
  read_waits = 0;
  read_wait_at = 0;
  read_waited = false;
  write_waits = 0;
  write_wait_at = 0;
  taken_count = 0;
  sent_count = 0;
  taken = Some [];
  sent = Some [];
  read_length = 0;
  write_length = 0;
  told_end = false;
  finished = false;
  on_loop = None;
  tag = Some plan.line;
  dial = None;
  plan = Some plan;
}

-- a link of this plan before its first call
abbrev pub new_link : Plan → MemoryLinkNow
new_link plan = record { plan = plan; state = new_state plan; calls = 0; starved = false }

-- the same, as a net dials it
abbrev pub begun_link : Plan → Option (ℕ × ℕ) → MemoryLinkNow
begun_link plan dial = record (new_link plan) { state = record (new_state plan) { dial = dial } }

-- a link with that loop, or with none
abbrev pub with_loop : Option ℕ → MemoryLinkNow → MemoryLinkNow
with_loop on_loop l = record l { state = record l.state { on_loop = on_loop } }

-- a link on which nothing more will be written
abbrev pub finished_link : MemoryLinkNow → MemoryLinkNow
finished_link l = record l { state = record l.state { finished = true } }

-- at the moment no piece and no end was due, and it isn't the first call that fails
abbrev pub WaitsFor : Plan → ℕ → ℕ → ℕ → Type 0
WaitsFor plan taken sent now = (is_ready plan taken sent now ≡ false) × (fails_at plan.fail 1 ≡ false)

-- a read at the moment doesn't have to wait: a piece or the end is due, or the first call fails
abbrev pub IsReady : Plan → ℕ → ℕ → ℕ → Type 0
IsReady plan taken sent now = (is_ready plan taken sent now ≡ true) ⊎ (plan.fail ≡ Some 1)

-- no call may have failed: the plan names none, each write found memory, and neither limit of bytes is reached
pub record CannotFail (m : MemoryLinkNow) : Type 0 where
  pub plan : m.plan.fail ≡ None
  pub memory : m.starved ≡ false
  pub taken : m.state.taken_count < most_bytes
  pub sent : m.state.sent_count < most_bytes

-- it tells its plan, what was taken stands at the front of the plan, the end was told only where the plan has one and all was taken,
-- where a read waited last, nothing was due at that moment, no write waited, and where no call may have failed, none did
pub record KeepsPlan (m : MemoryLinkNow) : Type 0 where
  pub told : m.state.plan ≡ Some m.plan
  pub taken : m.state.taken ≡ Some (take m.state.taken_count (planned m.plan.pieces))
  pub within : m.state.taken_count ≤ length (planned m.plan.pieces)
  pub ended : m.state.told_end ≡ true → (m.state.taken_count ≡ length (planned m.plan.pieces)) × IsSome m.plan.end
  pub waits : m.state.read_waited ≡ true → WaitsFor m.plan m.state.taken_count m.state.sent_count m.state.read_wait_at
  pub faults : CannotFail m → m.state.faults ≡ 0
  -- no write had to wait
  pub writes : m.state.write_waits ≡ 0
