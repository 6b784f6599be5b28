use Rattle.std.proofs.Common.{◌≡◌, drop}
use Rattle.hx_resting.specs.Rows.{rests_of, spot_in}
use Rattle.hx_resting.proofs.row.found_at.Given as goal

abbrev pub invariant-loop-rest : goal.invariant-loop-rest
invariant-loop-rest g l = spot_in (rests_of g.V.Faced.shows (drop l.rest-index l.resting)) l.place ≡ spot_in (rests_of g.V.Faced.shows l.resting) l.place
