-- Which statuses have an answer of the proxy's own.
use Rattle.std.specs.Prelude.{ℕ, List}
use Rattle.hx_message.specs.OwnAnswer.{HasReason}

-- no reason belongs to the status
abbrev pub HasNoOwnAnswer : ℕ → Type 0
HasNoOwnAnswer status = (reason : List ℕ) → HasReason status reason → ⊥
