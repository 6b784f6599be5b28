use Rattle.std.proofs.Common.{All, take}
use Rattle.hx_script.specs.Numbers.{IsNumber, told_numbers}
use Rattle.hx_script.proofs.numbers.records_fit.Given as goal

abbrev pub invariant-loop-told : goal.invariant-loop-told
invariant-loop-told l = All (λ r. All IsNumber (told_numbers r)) (take l.told-index l.records)
