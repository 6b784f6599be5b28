use Rattle.std.proofs.Common.{◌-◌, length}
use Rattle.hx_run.specs.Rooms.{RoomBelow}
use Rattle.hx_run.specs.Runs.{IsWorking, IsRoomier}
use Rattle.hx_run.proofs.running.make_room.Given as goal

abbrev pub invariant-loop-at : goal.invariant-loop-at
invariant-loop-at l =
    IsWorking l.worker × IsRoomier l.fn.worker l.worker × RoomBelow l.fn.marks l.at l.worker.journals

abbrev pub decreases-loop-at : goal.decreases-loop-at
decreases-loop-at l = length l.worker.seats - l.at
