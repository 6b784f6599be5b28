use Rattle.std.proofs.Common.{◌≡◌, ◌+◌, ◌≤◌, length}
use Rattle.hx_config_parts.specs.Lexical.{lines_of}
use Rattle.hx_config.specs.Meaning.{lines_read}
use Rattle.hx_config.specs.Sections.{nothing_read}
use Rattle.hx_config.proofs.read.read_lines.Given as goal

abbrev pub invariant-loop-bytes : goal.invariant-loop-bytes
invariant-loop-bytes l = record {
  few : l.line + length l.lines ≤ 262145 + 1;
  same : lines_read l.line l.reading l.lines ≡ lines_read 1 nothing_read (lines_of l.text);
}

abbrev pub decreases-loop-bytes : goal.decreases-loop-bytes
decreases-loop-bytes l = length l.lines
