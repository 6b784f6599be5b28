use Rattle.std.proofs.Common.{All, subst, arith}
use Rattle.std.proofs.lemmas.List.{take_all}
use Rattle.std.proofs.lemmas.List.Elements.{All-more}
use Rattle.hx_script.specs.Numbers.{IsNumber, total_numbers}
use Rattle.hx_script.proofs.numbers.totals_fit.Goals as goal

pub loop-sums-preserved : goal.loop-sums-preserved
loop-sums-preserved c = All-more (λ s. All IsNumber (total_numbers s)) c.args.totals.now c.loop-sums.sums-index _ (omega arith) c.loop-sums.invariant c.sums_fit.ensures

pub returns : goal.returns
returns c = subst (All (λ s. All IsNumber (total_numbers s))) (take_all c.loop-sums.sums-index c.args.totals.now (omega arith)) c.loop-sums.invariant
