use Rattle.std.proofs.Common.{◌≡◌, length, None}
use Rattle.hx_rows.proofs.Trying.{Tried}
use Rattle.hx_rows.proofs.row.Row.take_own.Given as goal

abbrev pub invariant-loop-stay : goal.invariant-loop-stay
invariant-loop-stay g l = record {
  tried : Tried l.initial.seat l.seat l.self-inside.stays;
  last : l.self-inside.last ≡ record { first = None; second = None };
}

abbrev pub decreases-loop-stay : goal.decreases-loop-stay
decreases-loop-stay g l = length l.self-inside.stays
