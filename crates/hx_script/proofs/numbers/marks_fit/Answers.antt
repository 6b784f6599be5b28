use Rattle.std.proofs.Common.{All, subst, arith}
use Rattle.std.proofs.lemmas.List.{take_all}
use Rattle.std.proofs.lemmas.List.Elements.{All-more}
use Rattle.hx_script.specs.Numbers.{IsNumber, mark_numbers}
use Rattle.hx_script.proofs.numbers.marks_fit.Goals as goal

pub loop-mark-preserved : goal.loop-mark-preserved
loop-mark-preserved c = All-more (λ e. All IsNumber (mark_numbers e)) c.args.marks.now c.loop-mark.mark-index _ (omega arith) c.loop-mark.invariant c.mark_fits.ensures

pub returns : goal.returns
returns c = subst (All (λ e. All IsNumber (mark_numbers e))) (take_all c.loop-mark.mark-index c.args.marks.now (omega arith)) c.loop-mark.invariant
