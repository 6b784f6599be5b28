use Rattle.hx_loop.proofs.Going.{steps_there}
use Rattle.hx_loop.proofs.hand.Hand.step.Goals as goal

pub returns : goal.returns
returns g c = record { stays = λ no. steps_there _ _ _ _ _ _ c.step.ensures.steps no }
