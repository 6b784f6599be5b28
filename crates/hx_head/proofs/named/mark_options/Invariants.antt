use Rattle.std.proofs.Common.{◌≡◌, ◌<◌, ℕ, ◌||◌, false, get_or, length, drop, map}
use Rattle.hx_message.specs.Fields.{is_optional}
use Rattle.hx_head.specs.Heads.{field_in}
use Rattle.hx_head.specs.Staying.{name_at}
use Rattle.hx_head.proofs.named.mark_options.Given as goal

abbrev pub invariant-loop-i : goal.invariant-loop-i
invariant-loop-i l =
    (k : ℕ) → k < length l.fields
    → (get_or l.named k false || is_optional (map (field_in l.bytes) (drop l.i l.fields)) (name_at l.bytes l.fields k))
    ≡ is_optional (map (field_in l.bytes) l.fields) (name_at l.bytes l.fields k)
