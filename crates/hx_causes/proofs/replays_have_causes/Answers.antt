use Rattle.hx_causes.proofs.ReplayCauses.{causes_hold}
use Rattle.hx_causes.proofs.replays_have_causes.Goals as goal

pub returns : goal.returns
returns c = causes_hold
