-- Why a session leaves where no record says it: its client ended, its client's link failed, or a deadline came.
use Rattle.std.specs.Prelude.{◌≡◌, ◌⊎◌, ℕ, ◌≤◌, true, drop, IfSome, ⊤}
use Rattle.hx_link.specs.Told.{LinkState}
use Rattle.hx_message.specs.Partial.{HasWholeRequest}
use Rattle.hx_record.specs.declared.served.LeftCause.{LeftCause}
use Rattle.hx_record.specs.declared.served.LeftCause.TheVariants as cause
use Rattle.hx_session.specs.declared.stage.Came.{Came}
use Rattle.hx_session.specs.declared.stage.Came.TheVariants.{On, Moved, Ends}
use Rattle.hx_session.specs.Causes.{HasCome, Limits}
use Rattle.hx_session.specs.Desks.{DeskNow}

-- no whole request was taken behind the last record
abbrev pub NoneWhole : LinkState → ℕ → Type 0
NoneWhole client from = IfSome client.taken (λ bytes. (n : ℕ) → HasWholeRequest (drop from bytes) n → ⊥)

-- at that moment, by these timeouts, the session leaves for that cause
abbrev pub LeavesBy : Limits → ℕ → DeskNow → LeftCause → Type 0
LeavesBy limits now d cause.End = (d.client.told_end ≡ true) × NoneWhole d.client d.ask_from
LeavesBy limits now d cause.Fault = 1 ≤ d.client.faults
LeavesBy limits now d cause.Idle = HasCome limits.client d.since.0 now ⊎ HasCome limits.keep_alive d.since.0 now
LeavesBy limits now d cause.Closing = ⊤
LeavesBy limits now d cause.Own = ⊤
LeavesBy limits now d cause.Cut = ⊤
LeavesBy limits now d cause.Stop = ⊤

-- the same of a part of a step
abbrev pub CameLeaves : {X : Type 0} → Limits → ℕ → DeskNow → Came X → Type 0
CameLeaves limits now d (On stage w) = ⊤
CameLeaves limits now d (Moved stage w served) = ⊤
CameLeaves limits now d (Ends e) = LeavesBy limits now d e.cause
