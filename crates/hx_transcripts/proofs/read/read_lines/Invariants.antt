use Rattle.std.proofs.Common.{◌≡◌, ◌+◌, ◌≤◌, length}
use Rattle.hx_transcripts.specs.Lines.{nothing_read}
use Rattle.hx_transcripts.specs.Meaning.{lines_read}
use Rattle.hx_transcripts.proofs.read.read_lines.Given as goal

abbrev pub invariant-loop-bytes : goal.invariant-loop-bytes
invariant-loop-bytes l = record {
  few : l.last + length l.lines ≤ 16777217;
  same : lines_read l.last l.read l.lines ≡ lines_read 1 nothing_read l.initial.lines;
}

abbrev pub decreases-loop-bytes : goal.decreases-loop-bytes
decreases-loop-bytes l = length l.lines
