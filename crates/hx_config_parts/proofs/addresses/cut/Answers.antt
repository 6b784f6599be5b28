use Rattle.std.proofs.Common.{ℕ, List, Ok, ap, ◌∙◌, sym, take, ◌+◌}
use Rattle.std.proofs.lemmas.List.{take_rest}
use Rattle.hx_config_parts.proofs.Cuts.{found_mark, passed_byte, no_mark}
use Rattle.hx_config_parts.proofs.addresses.cut.Goals as goal

pub returns-then-b-mark : goal.returns-then-b-mark
returns-then-b-mark c =
    found_mark c.args.mark c.args.word.now c.loop-i.i _ c.loop-i-test.true c.if-b-mark.true c.loop-i.invariant
    ∙ ap (λ (xs : List ℕ). Ok (take c.loop-i.i c.args.word.now, xs)) (sym (take_rest c.args.word.now (c.loop-i.i + 1)))

pub loop-i-preserved : goal.loop-i-preserved
loop-i-preserved c = passed_byte c.args.mark c.args.word.now c.loop-i.i _ c.loop-i-test.true c.if-b-mark.false c.loop-i.invariant

pub returns : goal.returns
returns c = no_mark c.args.mark c.args.word.now c.loop-i.i _ c.loop-i-test.false c.loop-i.invariant
