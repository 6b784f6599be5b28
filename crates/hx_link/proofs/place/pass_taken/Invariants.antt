use Rattle.std.proofs.Common.{◌≡◌, ◌-◌, length}
use Rattle.hx_link.specs.Places.{IsPlace}
use Rattle.hx_link.proofs.place.pass_taken.Given as goal

abbrev pub invariant-loop-at : goal.invariant-loop-at
invariant-loop-at l = record {
  place : IsPlace l.pieces l.at;
  same : l.at.taken ≡ l.initial.at.taken;
}

abbrev pub decreases-loop-at : goal.decreases-loop-at
decreases-loop-at l = length l.pieces - l.at.piece
