use Rattle.std.proofs.Common.{◌≡◌, take}
use Rattle.std.specs.Prelude.{fold}
use Rattle.hx_head.specs.Staying.{add_byte}
use Rattle.hx_head.proofs.named.key_of_name.Given as goal

abbrev pub invariant-loop-b : goal.invariant-loop-b
invariant-loop-b l = l.key ≡ fold add_byte 0 (take l.b-index l.name)
