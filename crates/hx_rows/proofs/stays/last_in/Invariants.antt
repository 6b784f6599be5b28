use Rattle.std.proofs.Common.{◌≤◌, drop, length}
use Rattle.hx_rows.specs.Stays.{NoneFits}
use Rattle.hx_rows.proofs.stays.last_in.Given as goal

abbrev pub invariant-loop-i : goal.invariant-loop-i
invariant-loop-i l = record { none : NoneFits l.mode l.first l.safe (drop l.i l.stays); inside : l.i ≤ length l.stays }

abbrev pub decreases-loop-i : goal.decreases-loop-i
decreases-loop-i l = l.i
