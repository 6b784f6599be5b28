use Rattle.std.proofs.Common.{◌≤◌, ◌+◌, Some, sym, ap, ◌∙◌, subst}
use Rattle.hx_connecting.specs.Journals.{JournalRoom, room_of}
use Rattle.hx_pool.specs.Journal.{Journal, journal_from}
use Rattle.hx_pool.specs.SeatView.{History}
use Rattle.hx_worker.specs.Lends.{with_seat}
use Rattle.hx_worker.specs.Workers.{WorkerNow}
use Rattle.std.specs.Prelude.{slice_set}
use Rattle.hx_run.specs.Rooms.{RoomBelow}
use Rattle.hx_run.specs.Runs.{IsWorking, IsRoomier}
use Rattle.hx_run.proofs.Working.{lent_room, kept_same, on_ok_map, room_next}
use Rattle.hx_run.proofs.running.room_at.Goals as goal

abbrev room : Journal → JournalRoom
room j = room_of journal_from (λ (k : Journal). k.room) j

abbrev after : goal.After-worker-1 → WorkerNow
after c = with_seat c.args.worker.now c.args.at.0 c.reserve.new.self.history (room c.reserve.new.self)

both : (c : goal.After-worker-1) → IsWorking (after c) × IsRoomier c.args.worker.now (after c)
both c =
    let new = c.reserve.new.self in let lent = c.seat_mut.result.now in let e = c.reserve.ensures in
    lent_room c.args.worker.now c.args.at.0 new.history (room lent) (room new) c.requires.working
    (c.seat_mut.ensures.value ∙ ap (λ (h : History). Some h) (sym e.history)) c.seat_mut.ensures.room
    (kept_same lent new e.history e.stored.0 e.stored.1)

pub returns-clause-working : goal.returns-clause-working
returns-clause-working c = (both c).0

pub returns-clause-same : goal.returns-clause-same
returns-clause-same c = (both c).1

pub returns-clause-room : goal.returns-clause-room
returns-clause-room c k e r =
    on_ok_map c.reserve.result (λ (h : c.args.marks ≤ c.reserve.new.self.room).
    subst (λ m. RoomBelow c.args.marks (k + 1) (slice_set c.args.worker.now.journals m (room_of journal_from (λ (j : Journal). j.room) c.reserve.new.self))) e
    (room_next c.args.marks k c.args.worker.now.journals (room_of journal_from (λ (j : Journal). j.room) c.reserve.new.self) h r))
    c.reserve.ensures.room
