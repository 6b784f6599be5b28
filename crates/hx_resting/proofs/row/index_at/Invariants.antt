use Rattle.std.proofs.Common.{◌≡◌, drop}
use Rattle.hx_resting.specs.Rows.{rests_of, spot_in}
use Rattle.hx_resting.proofs.row.index_at.Given as goal

abbrev pub invariant-loop-i : goal.invariant-loop-i
invariant-loop-i g l = spot_in (rests_of g.V.Faced.shows (drop l.i l.resting)) l.place ≡ spot_in (rests_of g.V.Faced.shows l.resting) l.place
