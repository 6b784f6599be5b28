use Rattle.std.proofs.Common.{◌≡◌, ◌<◌, ℕ, ◌||◌, false, get_or, length}
use Rattle.hx_head.specs.Staying.{lists_name, name_at}
use Rattle.hx_head.proofs.named.mark_value.Given as goal

abbrev pub invariant-loop-comma : goal.invariant-loop-comma
invariant-loop-comma l =
    (k : ℕ) → k < length l.fields
    → (get_or l.named k false || lists_name l.rest (name_at l.bytes l.fields k))
    ≡ (get_or l.initial.named k false || lists_name l.value (name_at l.bytes l.fields k))

abbrev pub decreases-loop-comma : goal.decreases-loop-comma
decreases-loop-comma l = length l.rest
