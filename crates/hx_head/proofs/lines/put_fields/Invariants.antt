use Rattle.std.proofs.Common.{◌≡◌, ◌+◌, length, take}
use Rattle.hx_head.specs.Writes.{lines_of, AddsPiece}
use Rattle.hx_head.proofs.lines.put_fields.Given as goal

abbrev pub invariant-loop-i : goal.invariant-loop-i
invariant-loop-i l = record {
  next : l.at ≡ l.start + length (lines_of l.bytes (take l.i l.fields));
  piece : AddsPiece (lines_of l.bytes (take l.i l.fields)) l.initial.out l.start l.out l.at;
}
