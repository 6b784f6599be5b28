use Rattle.std.proofs.Common.{◌≡◌, ◌≤◌, take, length}
use Rattle.hx_check_parts.specs.Marks.{table_of}
use Rattle.hx_check_parts.proofs.last.resting_at.Given as goal

abbrev pub invariant-loop-end : goal.invariant-loop-end
invariant-loop-end l =
    (l.end ≤ length l.marks)
    × ((table_of (take l.end l.marks)).rests l.at.row l.at.place ≡ (table_of l.marks).rests l.at.row l.at.place)

abbrev pub decreases-loop-end : goal.decreases-loop-end
decreases-loop-end l = l.end
