use Rattle.hx_plain.specs.Row.{rests_of, Scanned}
use Rattle.hx_plain.proofs.row.look_for_vacant.Given as goal

abbrev pub invariant-loop-place : goal.invariant-loop-place
invariant-loop-place g l = Scanned l.initial.ledger l.ledger l.t (rests_of g.V.Faced.shows l.resting) l.place l.place
