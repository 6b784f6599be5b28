use Rattle.std.proofs.Common.{◌≡◌, ℕ, List, map, drop}
use Rattle.hx_message.specs.Fields.{is_optional}
use Rattle.hx_head.specs.Heads.{field_in}
use Rattle.hx_head.proofs.named.has_connection.Given as goal

abbrev pub invariant-loop-i : goal.invariant-loop-i
invariant-loop-i l =
    (name : List ℕ) → is_optional (map (field_in l.bytes) (drop l.i l.fields)) name ≡ is_optional (map (field_in l.bytes) l.fields) name
