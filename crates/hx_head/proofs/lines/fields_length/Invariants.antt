use Rattle.std.proofs.Common.{◌≡◌, ◌≤◌, ◌*◌, ◌^◌, length, take}
use Rattle.hx_head.specs.Writes.{lines_of}
use Rattle.hx_head.proofs.lines.fields_length.Given as goal

abbrev pub invariant-loop-i : goal.invariant-loop-i
invariant-loop-i l = record { so_far : l.total ≡ length (lines_of l.bytes (take l.i l.fields)); small : l.total ≤ l.i * 2 ^ 34 }
