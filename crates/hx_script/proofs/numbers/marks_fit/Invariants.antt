use Rattle.std.proofs.Common.{All, take}
use Rattle.hx_script.specs.Numbers.{IsNumber, mark_numbers}
use Rattle.hx_script.proofs.numbers.marks_fit.Given as goal

abbrev pub invariant-loop-mark : goal.invariant-loop-mark
invariant-loop-mark l = All (λ e. All IsNumber (mark_numbers e)) (take l.mark-index l.marks)
