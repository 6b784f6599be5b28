use Rattle.std.proofs.Common.{All, take}
use Rattle.hx_script.specs.PrintedForm.{OtherName}
use Rattle.hx_told.proofs.form.has_own_name.Given as goal

abbrev pub invariant-loop-other : goal.invariant-loop-other
invariant-loop-other l = All (OtherName l.part) (take l.other-index l.later)
