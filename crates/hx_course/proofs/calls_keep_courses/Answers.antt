use Rattle.hx_course.proofs.CallLemmas.{course_begin, course_admit, course_turned, course_tick, course_order}
use Rattle.hx_course.proofs.EndLemmas.{places_apart}
use Rattle.hx_course.proofs.StepLemmas.{course_step}
use Rattle.hx_course.proofs.StopLemmas.{course_stop}
use Rattle.hx_course.proofs.calls_keep_courses.Goals as goal

pub returns-clause-begins : goal.returns-clause-begins
returns-clause-begins c = course_begin

pub returns-clause-admits : goal.returns-clause-admits
returns-clause-admits c = course_admit

pub returns-clause-turned : goal.returns-clause-turned
returns-clause-turned c = course_turned

pub returns-clause-steps : goal.returns-clause-steps
returns-clause-steps c = course_step

pub returns-clause-stops : goal.returns-clause-stops
returns-clause-stops c = course_stop

pub returns-clause-ticks : goal.returns-clause-ticks
returns-clause-ticks c = course_tick

pub returns-clause-orders : goal.returns-clause-orders
returns-clause-orders c = course_order

pub returns-clause-places : goal.returns-clause-places
returns-clause-places c = places_apart
