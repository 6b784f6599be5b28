-- What is to come of a net in memory: its next plans, and which attach fails.
use Rattle.std.specs.Prelude.{ℕ, ◌-◌, Bool, true, false, List, [], ◌∷◌, Option, Some, None, if◌then◌else◌, ◌==◌}
use Rattle.hx_base.specs.declared.numbers.ServerNo.{ServerNo}
use Rattle.hx_base.specs.declared.plan.Plan.{Plan}

-- the plans that are left, in order, and which attach fails, counted from 1 for the next one
pub record Course : Type 0 where
  pub plans : List Plan
  pub failing : Option ℕ

-- the plan is one for that server
abbrev pub is_server : ServerNo → Option ServerNo → Bool
is_server server None = false
is_server server (Some other) = other.0 == server.0

-- a server's next plan
abbrev pub next_plan : ServerNo → List Plan → Option Plan
next_plan server [] = None
next_plan server (p ∷ plans) = if is_server server p.server then Some p else next_plan server plans

-- the plans without it
abbrev pub without_next : ServerNo → List Plan → List Plan
without_next server [] = []
without_next server (p ∷ plans) = if is_server server p.server then plans else p ∷ without_next server plans

-- no plan is left, or the next one refuses
abbrev pub refuses : Option Plan → Bool
refuses None = true
refuses (Some p) = p.refuse

-- the next attach is the one that fails
abbrev pub attach_fails : Option ℕ → Bool
attach_fails None = false
attach_fails (Some k) = k == 1

-- one attach was made
abbrev pub after_attach : Option ℕ → Option ℕ
after_attach None = None
after_attach (Some k) = if k == 1 then None else Some (k - 1)

-- a dial uses the server's next plan
abbrev pub after_dial : ServerNo → Course → Course
after_dial server c = record { plans = without_next server c.plans; failing = c.failing }

-- an attach is counted
abbrev pub attached : Course → Course
attached c = record { plans = c.plans; failing = after_attach c.failing }
