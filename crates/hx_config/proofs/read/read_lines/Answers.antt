use Rattle.std.proofs.Common.{List, ℕ, length, ap, ◌∙◌, arith}
use Rattle.hx_config.specs.declared.reading.Reading.{Reading}
use Rattle.hx_config_parts.specs.Lexical.{lines_of}
use Rattle.hx_config.specs.Meaning.{lines_read}
use Rattle.hx_config.proofs.ReadLines.{one_line, halted, no_line, lines_few}
use Rattle.hx_config.proofs.read.read_lines.Goals as goal

pub loop-bytes-init : goal.loop-bytes-init
loop-bytes-init c = record {
  few = (let n = ap (λ (ls : List (List ℕ)). length ls) c.of-lines.ensures in omega (arith, n, lines_few c.args.text.now));
  same = ap (λ (ls : List (List ℕ)). lines_read 1 c.new-reading.result ls) c.of-lines.ensures ∙ ap (λ (r : Reading). lines_read 1 r (lines_of c.args.text.now)) c.new-reading.ensures;
}

pub returns-in-Err : goal.returns-in-Err
returns-in-Err c =
    rw c.at_line.ensures (halted c.in-Err.refusal c.loop-bytes.line c.loop-bytes.reading c.in-Some.bytes.now c.loop-bytes.lines c.next.new.self _
    c.in-Some.ensures c.in-Err.ensures c.loop-bytes.invariant.same)

pub loop-bytes-preserved : goal.loop-bytes-preserved
loop-bytes-preserved c = record {
  few = (let n = ap (λ (ls : List (List ℕ)). length ls) c.in-Some.ensures in omega (arith, n));
  same = one_line c.loop-bytes.line c.loop-bytes.reading c.line.new.self c.in-Some.bytes.now c.loop-bytes.lines c.next.new.self _
      c.in-Some.ensures c.in_default-line.ensures c.loop-bytes.invariant.same;
}

pub returns : goal.returns
returns c = no_line c.loop-bytes.line c.loop-bytes.reading c.loop-bytes.lines _ c.in_default.ensures c.loop-bytes.invariant.same
