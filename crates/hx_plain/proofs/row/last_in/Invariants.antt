use Rattle.std.proofs.Common.{◌≤◌, drop, length}
use Rattle.hx_plain.specs.Row.{rests_of, NoneFits}
use Rattle.hx_plain.proofs.row.last_in.Given as goal

abbrev pub invariant-loop-i : goal.invariant-loop-i
invariant-loop-i g l = record { none : NoneFits l.mode l.first l.safe (rests_of g.V.Faced.shows (drop l.i l.resting)); inside : l.i ≤ length l.resting }

abbrev pub decreases-loop-i : goal.decreases-loop-i
decreases-loop-i g l = l.i
