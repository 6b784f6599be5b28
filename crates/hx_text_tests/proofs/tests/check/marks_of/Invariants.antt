use Rattle.std.proofs.Common.{All}
use Rattle.hx_script.specs.PrintedForm.{IsToldMark}
use Rattle.hx_text_tests.proofs.tests.check.marks_of.Given as goal

abbrev pub invariant-loop-mark : goal.invariant-loop-mark
invariant-loop-mark l = All IsToldMark l.told.items
