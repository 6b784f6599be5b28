use Rattle.std.proofs.Common.{refl}
use Rattle.hx_drill_parts.proofs.laws.samples.Goals as goal

pub returns-clause-two : goal.returns-clause-two
returns-clause-two c = (refl, refl)

pub returns-clause-four : goal.returns-clause-four
returns-clause-four c = (refl, refl)
