use Rattle.hx_connecting.specs.Journals.{room_of}
use Rattle.hx_caretaker.proofs.RowLemmas.{TicksTo}
use Rattle.hx_caretaker.proofs.rounds.tick_seats.Given as goal

abbrev pub invariant-loop-seat : goal.invariant-loop-seat
invariant-loop-seat g l =
    let S = g.S.HasHistory in
    TicksTo l.fn.now S.history (room_of S.kept_from S.spare) l.seat-index l.fn.seats l.seats (g.N.Net.state l.fn.net) (g.N.Net.state l.net) l.count
