use Rattle.std.proofs.Common.{length}
use Rattle.hx_script.specs.PrintedForm.{OtherNames}
use Rattle.hx_told.proofs.form.have_own_names.Given as goal

abbrev pub invariant-loop-part : goal.invariant-loop-part
invariant-loop-part l = OtherNames l.left → OtherNames l.fn.servers

abbrev pub decreases-loop-part : goal.decreases-loop-part
decreases-loop-part l = length l.left
