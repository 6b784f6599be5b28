use Rattle.hx_cares.proofs.Asking.{marks_asked}
use Rattle.hx_cares.proofs.marks_are_as_asked.Goals as goal

pub returns : goal.returns
returns c = marks_asked
