use Rattle.std.proofs.Common.{All, take}
use Rattle.hx_script.specs.Numbers.{IsNumber, total_numbers}
use Rattle.hx_script.proofs.numbers.totals_fit.Given as goal

abbrev pub invariant-loop-sums : goal.invariant-loop-sums
invariant-loop-sums l = All (λ s. All IsNumber (total_numbers s)) (take l.sums-index l.totals)
