use Rattle.std.proofs.Common.{◌≡◌, length, map}
use Rattle.hx_connecting.specs.Journals.{room_of}
use Rattle.hx_connecting.specs.Rooms.{RoomsStay}
use Rattle.hx_connecting.proofs.ChoiceLemmas.{IsAsking}
use Rattle.hx_connecting.proofs.choice.choose.Given as goal

abbrev pub invariant-loop-count : goal.invariant-loop-count
invariant-loop-count g l = IsAsking l.servers l.fn.turn l.turn (map g.S.HasHistory.history l.fn.seats) (map g.S.HasHistory.history l.seats) l.at l.count × (length l.seats ≡ length l.fn.seats)
    × RoomsStay g.S.HasHistory.history (room_of g.S.HasHistory.kept_from g.S.HasHistory.spare) l.fn.seats l.seats
