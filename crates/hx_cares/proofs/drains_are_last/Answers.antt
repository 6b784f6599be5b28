use Rattle.hx_cares.proofs.Asking.{drained_last}
use Rattle.hx_cares.proofs.drains_are_last.Goals as goal

pub returns : goal.returns
returns c = drained_last
