use Rattle.hx_resting.specs.Rows.{rests_of}
use Rattle.hx_resting.specs.Row.{fits as is_fit}
use Rattle.hx_lockboard.specs.Order.{IsClear}
use Rattle.hx_lockboard.proofs.other_rows.first_in_list.Given as goal

abbrev pub invariant-loop-number : goal.invariant-loop-number
invariant-loop-number g l = IsClear l.request.t l.request.threads (rests_of g.V.Faced.shows l.resting) (is_fit l.request.mode l.request.first l.safe) l.step l.number
