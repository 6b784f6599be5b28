use Rattle.std.proofs.Common.{◌≡◌, ◌+◌, ◌≤◌, length}
use Rattle.hx_config.specs.Views as config
use Rattle.hx_script_parts.specs.Lexical.{lines_of}
use Rattle.hx_script_parts.specs.Meaning.{lines_read}
use Rattle.hx_script_parts.specs.Reading.{nothing_read}
use Rattle.hx_script_parts.proofs.read.read_lines.Given as goal

abbrev pub invariant-loop-bytes : goal.invariant-loop-bytes
invariant-loop-bytes l = record {
  few : l.line + length l.lines ≤ 1048579;
  same : lines_read (config.meaning l.config) l.line l.reading l.lines ≡ lines_read (config.meaning l.config) l.first nothing_read (lines_of l.text);
}

abbrev pub decreases-loop-bytes : goal.decreases-loop-bytes
decreases-loop-bytes l = length l.lines
