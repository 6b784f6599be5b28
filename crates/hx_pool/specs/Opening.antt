-- The calls that make one entry: open, close, and those of the drain state.
use Rattle.std.specs.Prelude.{◌≡◌, ℕ, ◌<◌, ◌==◌, Bool, true, false, not, cond, [], ◌∷◌, Some, Result, Ok, Err}
use Rattle.hx_base.specs.declared.numbers.ThreadNo.{ThreadNo}
use Rattle.hx_base.specs.declared.numbers.SessionNo.{SessionNo}
use Rattle.hx_base.specs.declared.numbers.ConnId.{ConnId}
use Rattle.hx_base.specs.declared.numbers.OutOfIds.{OutOfIds}
use Rattle.hx_pool.specs.declared.entries.Entry.TheVariants.{Open, Close, Gate, SetGate}
use Rattle.hx_pool.specs.History.{plain, opens_of}
use Rattle.hx_pool.specs.Held.{Has}
use Rattle.hx_pool.specs.SeatView.{History, Makes, Calls}

-- how many connections a seat may open: sixteen seats stay below 2^40 together
abbrev pub open_limit : ThreadNo → ℕ
open_limit t = cond (t.0 == 15) 68719476735 68719476736

-- open_new: one Open with the answered number, or none where the limit is reached
abbrev pub Opens : History → History → SessionNo → Result ConnId OutOfIds → Type 0
Opens old new n (Ok id) = (opens_of old.mine < open_limit old.about.thread) × Calls old new (plain (Open old.about.thread n id) ∷ [])
Opens old new n (Err e) = (opens_of old.mine ≡ open_limit old.about.thread) × Calls old new []

-- the session has the connection, however often it was used
abbrev pub HasConn : History → SessionNo → ConnId → Type 0
HasConn h n id = (uses : ℕ) × Has h.mine n id.0 uses

-- close: one Close
abbrev pub Closes : History → History → SessionNo → ConnId → Type 0
Closes old new n id = Calls old new (plain (Close old.about.thread n id) ∷ [])

-- ready: one Gate, and the answer is what it shows
abbrev pub ReadsGate : History → History → Bool → Type 0
ReadsGate old new answer = Calls old new (plain (Gate old.about.thread (not answer)) ∷ [])

-- set_drain: one SetGate that is draining, and the seat's drain begins anew
pub record SetsDrain (old new : History) : Type 0 where
  pub makes : Makes old new (plain (SetGate old.about.thread true) ∷ [])
  pub passed : new.passed ≡ Some 0

-- set_ready: one SetGate that is not draining
abbrev pub SetsReady : History → History → Type 0
SetsReady old new = Calls old new (plain (SetGate old.about.thread false) ∷ [])
