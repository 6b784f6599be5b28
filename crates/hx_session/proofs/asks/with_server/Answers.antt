use Rattle.std.proofs.Common.{List, sym, subst}
use Rattle.hx_connecting.specs.Rooms.{RoomsStay}
use Rattle.hx_session.proofs.asks.with_server.Goals.{in-Some, in-None}
use Rattle.hx_connecting.specs.Journals.{room_of}
use Rattle.hx_connecting.proofs.RoomLemmas.{rooms_none}
use Rattle.hx_session.proofs.asks.with_server.Goals as goal

pub returns-clause-rooms : goal.returns-clause-rooms
returns-clause-rooms g c =
    let f = g.S.HasHistory.history in
    let r = room_of g.S.HasHistory.kept_from g.S.HasHistory.spare in
    elim c.match-server.branch [
      | in-Some w ↦ subst (λ (xs : List g.row.S.Denot). RoomsStay f r c.args.seats.now xs) (sym w.seats-is) (rooms_none f r c.args.seats.now)
      | in-None w ↦ subst (λ (xs : List g.row.S.Denot). RoomsStay f r c.args.seats.now xs) (sym w.seats-is) w.choose-server.ensures.rooms
    ]
