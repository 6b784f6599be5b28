use Rattle.std.proofs.Common.{◌≤◌, drop, length}
use Rattle.hx_resting.specs.Rows.{rests_of}
use Rattle.hx_resting.specs.Row.{NoneFits}
use Rattle.hx_resting.proofs.row.last_in.Given as goal

abbrev pub invariant-loop-i : goal.invariant-loop-i
invariant-loop-i g l = record { none : NoneFits l.mode l.first l.safe l.row (rests_of g.V.Faced.shows (drop l.i l.resting)); inside : l.i ≤ length l.resting }

abbrev pub decreases-loop-i : goal.decreases-loop-i
decreases-loop-i g l = l.i
