use Rattle.std.proofs.Common.{get_or, refl}
use Rattle.std.proofs.lemmas.List.{map-set}
use Rattle.hx_connecting.specs.Journals.{room_of}
use Rattle.hx_connecting.proofs.RoomLemmas.{room_by, rooms_set}
use Rattle.hx_connecting.proofs.SeatLemmas.{seat_here}
use Rattle.hx_connecting.proofs.choice.ask_seat.Goals as goal

pub returns-clause-asked : goal.returns-clause-asked
returns-clause-asked g c =
    let f = g.S.HasHistory.history in
    let seats = c.args.seats.now in
    let i = c.args.server.now.no.0 in
    (f (get_or seats i c.index-seats-server.result), f c.ready.new.self, _, seat_here f seats i c.index-seats-server.result c.requires, c.ready.ensures.answer, map-set f seats i c.ready.new.self, refl)

pub returns-clause-rooms : goal.returns-clause-rooms
returns-clause-rooms g c =
    let f = g.S.HasHistory.history in
    let room = room_of g.S.HasHistory.kept_from g.S.HasHistory.spare in
    rooms_set f room c.args.seats.now c.args.server.now.no.0 c.index-seats-server.result c.ready.new.self c.requires (room_by _ _ _ _ _ _ _ c.ready.ensures.grows c.ready.ensures.kept)
