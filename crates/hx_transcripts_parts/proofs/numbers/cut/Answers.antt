use Rattle.std.proofs.Common.{ℕ, List, Some, ap, ◌∙◌, sym, take, ◌+◌}
use Rattle.std.proofs.lemmas.List.{take_rest}
use Rattle.hx_transcripts_parts.proofs.CutLemmas.{found_mark, passed_byte, no_mark}
use Rattle.hx_transcripts_parts.proofs.numbers.cut.Goals as goal

pub returns-then-b-mark : goal.returns-then-b-mark
returns-then-b-mark c =
    ap (λ (xs : List ℕ). Some (take c.loop-i.i c.args.word.now, xs)) (take_rest c.args.word.now (c.loop-i.i + 1))
    ∙ sym (found_mark c.args.mark c.args.word.now c.loop-i.i _ c.loop-i-test.true c.if-b-mark.true c.loop-i.invariant)

pub loop-i-preserved : goal.loop-i-preserved
loop-i-preserved c = passed_byte c.args.mark c.args.word.now c.loop-i.i _ c.loop-i-test.true c.if-b-mark.false c.loop-i.invariant

pub returns : goal.returns
returns c = sym (no_mark c.args.mark c.args.word.now c.loop-i.i _ c.loop-i-test.false c.loop-i.invariant)
