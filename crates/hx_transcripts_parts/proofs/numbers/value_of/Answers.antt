use Rattle.std.proofs.Common.{arith, rules}
use Rattle.hx_transcripts_parts.proofs.ValueLemmas.{one_digit, no_digit}
use Rattle.hx_transcripts_parts.proofs.numbers.value_of.Goals as goal

pub loop-b-preserved : goal.loop-b-preserved
loop-b-preserved c = record {
  small = omega arith;
  same = one_digit c.loop-b.n c.args.word.now c.loop-b.b-index c.min-n.result _ c.loop-b-test.true (search rules) c.loop-b.invariant.same;
}

pub returns : goal.returns
returns c = no_digit c.loop-b.n c.args.word.now c.loop-b.b-index _ c.loop-b-test.false c.loop-b.invariant.small c.loop-b.invariant.same
