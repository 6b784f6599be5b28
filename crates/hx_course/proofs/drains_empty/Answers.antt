use Rattle.hx_course.proofs.DrainLemmas.{drain_empties, orders_rested, ticks_rested}
use Rattle.hx_course.proofs.drains_empty.Goals as goal

pub returns-clause-drains : goal.returns-clause-drains
returns-clause-drains c = drain_empties

pub returns-clause-orders : goal.returns-clause-orders
returns-clause-orders c = orders_rested

pub returns-clause-ticks : goal.returns-clause-ticks
returns-clause-ticks c = ticks_rested
