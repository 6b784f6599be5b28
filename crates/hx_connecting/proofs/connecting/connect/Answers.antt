use Rattle.std.proofs.Common.{List, map, get_or}
use Rattle.std.specs.List.{slice_set}
use Rattle.std.proofs.lemmas.List.{map-set}
use Rattle.hx_pool.specs.SeatView.{History}
use Rattle.hx_connecting.specs.Closing.{ConnectsTo}
use Rattle.hx_connecting.specs.Journals.{room_of}
use Rattle.hx_connecting.proofs.RoomLemmas.{rooms_set}
use Rattle.hx_connecting.proofs.SeatLemmas.{seat_here}
use Rattle.hx_connecting.proofs.AroundCalls.{held_has, reached_around, reached_begun, reached_new, reached_abouts, reached_loop}
use Rattle.hx_connecting.proofs.connecting.connect.Goals as goal

pub connect_at-requires-clause-has : goal.connect_at-requires-clause-has
connect_at-requires-clause-has g c =
    let f = g.S.HasHistory.history in
    let seats = c.args.seats.now in
    let w = c.args.want in
    let d = c.index-seats-server.result in
    held_has (map f seats) w.n w.server c.args.held (f (get_or seats w.server.0 d)) (seat_here f seats w.server.0 d c.requires.seat) c.requires.has

pub returns : goal.returns
returns g c =
    let f = g.S.HasHistory.history in
    let seats = c.args.seats.now in
    let w = c.args.want in
    let i = w.server.0 in
    let d = c.index-seats-server.result in
    let new : History = f c.connect_at.new.seat in
    let net = g.N.Net.state c.args.net.now in
    let net2 = g.N.Net.state c.connect_at.new.net in
    let olds : List History = map f seats in
    let news : List History = map f (slice_set seats i c.connect_at.new.seat) in
    let to : ConnectsTo olds news w.n w.first w.server w.now.0 w.method net net2 c.args.held c.connect_at.result = record {
      old = f (get_or seats i d);
      new = new;
      was = seat_here f seats i d c.requires.seat;
      seats = map-set f seats i c.connect_at.new.seat;
      tries = c.connect_at.ensures.tries;
    } in
    record {
      connects = to;
      around = λ t a is. reached_around t olds news w.n w.first w.server w.now.0 w.method net net2 c.args.held c.connect_at.result c.requires.has to a is;
      begins = reached_new olds news w.n w.first w.server w.now.0 w.method net net2 c.args.held c.connect_at.result to;
      own = reached_begun olds news w.n w.first w.server w.now.0 w.method net net2 c.args.held c.connect_at.result c.requires.servers c.requires.has to;
      abouts = reached_abouts olds news w.n w.first w.server w.now.0 w.method net net2 c.args.held c.connect_at.result to;
      loop_ = reached_loop olds news w.n w.first w.server w.now.0 w.method net net2 c.args.held c.connect_at.result to;
      rooms = rooms_set f (room_of g.S.HasHistory.kept_from g.S.HasHistory.spare) seats i d c.connect_at.new.seat c.requires.seat c.connect_at.ensures.room;
    }
