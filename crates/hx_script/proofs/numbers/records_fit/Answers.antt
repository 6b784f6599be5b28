use Rattle.std.proofs.Common.{All, subst, arith}
use Rattle.std.proofs.lemmas.List.{take_all}
use Rattle.std.proofs.lemmas.List.Elements.{All-more}
use Rattle.hx_script.specs.Numbers.{IsNumber, told_numbers}
use Rattle.hx_script.proofs.numbers.records_fit.Goals as goal

pub loop-told-preserved : goal.loop-told-preserved
loop-told-preserved c = All-more (λ r. All IsNumber (told_numbers r)) c.args.records.now c.loop-told.told-index _ (omega arith) c.loop-told.invariant c.record_fits.ensures

pub returns : goal.returns
returns c = subst (All (λ r. All IsNumber (told_numbers r))) (take_all c.loop-told.told-index c.args.records.now (omega arith)) c.loop-told.invariant
