use Rattle.std.proofs.Common.{take, map}
use Rattle.hx_head.specs.Heads.{field_in}
use Rattle.hx_frame.specs.Framing.{AreFound}
use Rattle.hx_frame.proofs.fields.framing_fields.Given as goal

abbrev pub invariant-loop-i : goal.invariant-loop-i
invariant-loop-i l = AreFound l.bytes (map (field_in l.bytes) (take l.i l.fields)) l.found
