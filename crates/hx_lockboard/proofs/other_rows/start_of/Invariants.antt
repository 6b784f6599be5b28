use Rattle.hx_resting.specs.Rows.{rests_of}
use Rattle.hx_lockboard.specs.Order.{AreClear}
use Rattle.hx_lockboard.proofs.other_rows.start_of.Given as goal

abbrev pub invariant-loop-step : goal.invariant-loop-step
invariant-loop-step g l = AreClear l.request.t l.request.threads (rests_of g.V.Faced.shows l.resting) l.request.mode l.request.first l.step
