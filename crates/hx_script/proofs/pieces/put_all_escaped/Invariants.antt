use Rattle.std.proofs.Common.{◌≡◌, ◌++◌, take}
use Rattle.std.specs.List.{flat_map}
use Rattle.hx_script_parts.specs.ByteText.{escaped}
use Rattle.hx_script.proofs.pieces.put_all_escaped.Given as goal

abbrev pub invariant-loop-b : goal.invariant-loop-b
invariant-loop-b l = l.out.items ≡ l.initial.out.items ++ flat_map escaped (take l.b-index l.bytes)
