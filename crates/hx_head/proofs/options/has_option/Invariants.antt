use Rattle.std.proofs.Common.{◌≡◌, map, drop}
use Rattle.hx_head.specs.Heads.{field_in}
use Rattle.hx_head.specs.Options.{has_option}
use Rattle.hx_head.proofs.options.has_option.Given as goal

abbrev pub invariant-loop-i : goal.invariant-loop-i
invariant-loop-i l =
    has_option l.option (map (field_in l.bytes) (drop l.i l.fields)) ≡ has_option l.option (map (field_in l.bytes) l.fields)
