use Rattle.std.proofs.Common.{◌≡◌, ◌<◌, List, map, length, get_or, sym, ap, subst, length-set}
use Rattle.std.proofs.lemmas.List.{map-set}
use Rattle.hx_base.specs.declared.numbers.ServerNo.{ServerNo}
use Rattle.hx_pool.specs.SeatView.{History}
use Rattle.hx_connecting.specs.Journals.{JournalRoom, JournalsStay, room_of}
use Rattle.hx_connecting.proofs.SeatLemmas.{seat_here}
use Rattle.hx_caretaker.specs.Sweeps.{care_marks}
use Rattle.hx_caretaker.specs.Caring.{CaresForAll}
use Rattle.hx_caretaker.specs.Orders.{OrdersAt, ordered_server}
use Rattle.hx_caretaker.specs.Owners.{AllHoldOn}
use Rattle.hx_caretaker.proofs.RowLemmas.{orders_at, rooms_at}
use Rattle.hx_caretaker.proofs.orders.order_seats.Goals as goal

pub returns : goal.returns
returns g c =
    let S = g.S.HasHistory in let h = S.history in let f = room_of S.kept_from S.spare in
    let seats = c.args.seats.now in let new = c.order_seat.new.seat in let j = c.server_of-server.result.0 in
    let s = get_or seats j c.index-seats-server.result in
    let at : j ≡ (ordered_server c.args.what).0 = ap (λ (n : ServerNo). n.0) c.server_of-server.ensures in
    let low : j < length seats = subst (λ n. n < length seats) (sym at) c.requires.there in
    let net = g.N.Net.state c.args.net.now in let net2 = g.N.Net.state c.order_seat.new.net in
    let done = orders_at c.args.what (map h seats) j (h s) (h new) net net2 c.order_seat.result at (seat_here h seats j c.index-seats-server.result low) c.order_seat.ensures.cares c.order_seat.ensures.holds in
    let news = map-set h seats j new in let rooms = map-set f seats j new in
    record {
      cares = subst (λ (l : List History). CaresForAll (OrdersAt c.args.what) (map h seats) l net net2 c.order_seat.result) (sym news) done.0;
      holds = subst (λ (l : List History). AllHoldOn (map h seats) l) (sym news) done.1;
      journals = subst (λ (l : List JournalRoom). JournalsStay care_marks (map f seats) l) (sym rooms)
          (rooms_at care_marks (map f seats) j (f s) (f new) (seat_here f seats j c.index-seats-server.result low) c.order_seat.ensures.journal);
      size = length-set seats j new;
    }
