use Rattle.hx_planned.proofs.BeginPlans.{plans_begin, plans_admit, plans_turned, graves_follow}
use Rattle.hx_planned.proofs.CarePlans.{plans_tick, plans_order}
use Rattle.hx_planned.proofs.StepPlans.{plans_step}
use Rattle.hx_planned.proofs.StopPlans.{plans_stop}
use Rattle.hx_planned.proofs.calls_keep_plans.Goals as goal

pub returns-clause-begins : goal.returns-clause-begins
returns-clause-begins c = plans_begin

pub returns-clause-admits : goal.returns-clause-admits
returns-clause-admits c = plans_admit

pub returns-clause-turned : goal.returns-clause-turned
returns-clause-turned c = plans_turned

pub returns-clause-steps : goal.returns-clause-steps
returns-clause-steps c = plans_step

pub returns-clause-stops : goal.returns-clause-stops
returns-clause-stops c = plans_stop

pub returns-clause-ticks : goal.returns-clause-ticks
returns-clause-ticks c = plans_tick

pub returns-clause-orders : goal.returns-clause-orders
returns-clause-orders c = plans_order

pub returns-clause-graves : goal.returns-clause-graves
returns-clause-graves c = graves_follow
