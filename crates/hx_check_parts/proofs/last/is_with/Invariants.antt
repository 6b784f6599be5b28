use Rattle.std.proofs.Common.{◌≡◌, ◌≤◌, take, length}
use Rattle.hx_check_parts.specs.Marks.{table_of}
use Rattle.hx_check_parts.specs.Last.{is_held}
use Rattle.hx_check_parts.proofs.last.is_with.Given as goal

abbrev pub invariant-loop-end : goal.invariant-loop-end
invariant-loop-end l =
    (l.end ≤ length l.marks)
    × (is_held ((table_of (take l.end l.marks)).conns l.id.0) l.t l.n ≡ is_held ((table_of l.marks).conns l.id.0) l.t l.n)

abbrev pub decreases-loop-end : goal.decreases-loop-end
decreases-loop-end l = l.end
