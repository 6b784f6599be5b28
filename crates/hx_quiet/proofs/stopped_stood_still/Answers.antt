use Rattle.hx_quiet.proofs.Stopping.{stood_still}
use Rattle.hx_quiet.proofs.stopped_stood_still.Goals as goal

pub returns : goal.returns
returns c = stood_still
