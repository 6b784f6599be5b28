use Rattle.hx_worker.proofs.HeadlineOfStep.{headline_of_step}
use Rattle.hx_worker.proofs.law.steps_carry_headline.Goals as goal

pub returns : goal.returns
returns c = record { headline = headline_of_step }
