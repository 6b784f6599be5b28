use Rattle.hx_handoff.proofs.Steps.{begins}
use Rattle.hx_handoff.proofs.making.lane.Goals as goal

pub ruled-requires-clause-rule : goal.ruled-requires-clause-rule
ruled-requires-clause-rule g c = begins
