use Rattle.std.proofs.Common.{arith}
use Rattle.hx_transcripts.proofs.ReadLines.{few_behind}
use Rattle.hx_transcripts.proofs.read.read_parts.Goals as goal

pub read_lines-requires : goal.read_lines-requires
read_lines-requires c =
    few_behind c.args.text.now c.in-Some.line.now c.of-lines.result c.next.new.self c.of-lines.ensures c.in-Some.ensures (omega (arith, c.if-text-gt-LONGEST_TEXT.false))
