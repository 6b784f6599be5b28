use Rattle.std.proofs.Common.{All, take}
use Rattle.hx_script.specs.PrintedForm.{IsToldRecord}
use Rattle.hx_told.proofs.form.are_told.Given as goal

abbrev pub invariant-loop-told : goal.invariant-loop-told
invariant-loop-told l = All (IsToldRecord l.count) (take l.told-index l.records)
