use Rattle.std.proofs.Common.{All}
use Rattle.hx_script.specs.PrintedForm.{IsToldRecord}
use Rattle.hx_text_tests.proofs.tests.check.records_of.Given as goal

abbrev pub invariant-loop-told : goal.invariant-loop-told
invariant-loop-told l = All (IsToldRecord 1) l.all.items
