use Rattle.std.proofs.Common.{◌≡◌, ◌+◌, ◌-◌, ◌≤◌, length}
use Rattle.hx_script_parts.specs.Lexical.{behind}
use Rattle.hx_script_parts.proofs.lines.skip_lines.Given as goal

abbrev pub invariant-loop : goal.invariant-loop
invariant-loop l = record {
  fewer : l.counter + length l.rest ≤ length l.text;
  same : behind (l.count - l.counter) l.rest ≡ behind l.count l.text;
}
