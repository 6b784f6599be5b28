use Rattle.hx_plain.specs.Row.{rests_of, Ran}
use Rattle.hx_plain.proofs.row.look_for_resting.Given as goal

abbrev pub invariant-loop-count : goal.invariant-loop-count
invariant-loop-count g l = Ran l.initial.ledger l.ledger l.t (rests_of g.V.Faced.shows l.resting) l.from l.count
