use Rattle.std.proofs.Common.{All, take}
use Rattle.hx_script.specs.PrintedForm.{IsToldMark}
use Rattle.hx_told.proofs.servers.are_told.Given as goal

abbrev pub invariant-loop-mark : goal.invariant-loop-mark
invariant-loop-mark l = All IsToldMark (take l.mark-index l.marks)
