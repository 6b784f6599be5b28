use Rattle.std.proofs.Common.{List, ℕ, length, ap, arith}
use Rattle.hx_transcripts.proofs.ReadLines.{one_line, halted, no_line}
use Rattle.hx_transcripts.proofs.read.read_lines.Goals as goal

pub returns-in-Err : goal.returns-in-Err
returns-in-Err c = halted c.in-Err.stop c.loop-bytes.last c.loop-bytes.read c.in-Some.bytes.now c.loop-bytes.lines c.next.new.self _
    c.in-Some.ensures c.in-Err.ensures c.loop-bytes.invariant.same

pub loop-bytes-preserved : goal.loop-bytes-preserved
loop-bytes-preserved c = record {
  few = (let n = ap (λ (ls : List (List ℕ)). length ls) c.in-Some.ensures in omega (arith, n, c.loop-bytes.invariant.few));
  same = one_line c.loop-bytes.last c.loop-bytes.read c.in-Ok.more c.in-Some.bytes.now c.loop-bytes.lines c.next.new.self _
      c.in-Some.ensures c.in-Ok.ensures c.loop-bytes.invariant.same;
}

pub returns : goal.returns
returns c = no_line c.loop-bytes.last c.loop-bytes.read c.loop-bytes.lines _ c.in_default.ensures c.loop-bytes.invariant.same
