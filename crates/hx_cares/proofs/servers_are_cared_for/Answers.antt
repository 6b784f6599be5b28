use Rattle.hx_cares.proofs.ReplayCares.{cares_hold}
use Rattle.hx_cares.proofs.servers_are_cared_for.Goals as goal

pub returns : goal.returns
returns c = cares_hold
