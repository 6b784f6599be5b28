use Rattle.std.proofs.Common.{◌≡◌, ◌+◌, take}
use Rattle.hx_check.specs.Lines.{told_line, server_lines}
use Rattle.hx_check.proofs.lines.records_at.Given as goal

abbrev pub invariant-loop-part : goal.invariant-loop-part
invariant-loop-part l = l.line ≡ told_line (server_lines (take l.part-index l.servers) + 3)
