use Rattle.std.proofs.Common.{◌<◌, List, length, sym, ◌∙◌, subst}
use Rattle.std.proofs.lemmas.List.{with_items_is}
use Rattle.std.specs.Vec.{with_items}
use Rattle.hx_config.specs.Views.{meaning}
use Rattle.hx_config.specs.Limits.{all_servers}
use Rattle.hx_caretaker.specs.Orders.{OrdersAt, ordered_server}
use Rattle.hx_connecting.specs.Journals.{room_of}
use Rattle.hx_worker.specs.Workers.{WorkerNow, HasSeats}
use Rattle.hx_worker.specs.Listed.{sessions_of}
use Rattle.hx_worker.proofs.Caring.{CaredAll, cared_of, cares_seats, seats_count}
use Rattle.hx_worker.proofs.worker.Worker.order.Goals as goal

pub order_seats-requires : goal.order_seats-requires
order_seats-requires g c =
    let S = g.S.HasHistory in let i = c.self.inside in
    let seats = subst HasSeats (sym c.self.view_is) c.requires.seats in
    let server = (ordered_server c.args.what).0 in
    let low = subst (λ (w : WorkerNow). server < length (all_servers w.config.backs)) (sym c.self.view_is) c.requires.there in
    record {
      there = subst (λ (l : List g.row.S.Denot). server < length l) (sym c.as_mut_slice.ensures.value)
          (subst (λ n. server < n) (sym (seats_count S.history i.thread i.seats.items (all_servers i.config.now.backs) seats.serve)) low);
    }

-- what the caretaker did, of the seats that the worker has
done : (g : _) (c : goal.After-self-1 g)
    → CaredAll (OrdersAt c.args.what) g.S.HasHistory.history (room_of g.S.HasHistory.kept_from g.S.HasHistory.spare) c.self.inside.seats.items
    (with_items c.self.inside.seats c.order_seats.new.seats).items (g.N.Net.state c.args.net.now) (g.N.Net.state c.order_seats.new.net) c.order_seats.result
done g c =
    let S = g.S.HasHistory in let i = c.self.inside in let h = S.history in let f = room_of S.kept_from S.spare in
    let e = c.order_seats.ensures in
    let xs = with_items i.seats c.order_seats.new.seats in
    let is = with_items_is i.seats c.order_seats.new.seats (e.size ∙ c.as_mut_slice.ensures.len) in
    cared_of (OrdersAt c.args.what) h f c.as_mut_slice.result.now i.seats.items c.order_seats.new.seats xs.items
    (g.N.Net.state c.args.net.now) (g.N.Net.state c.order_seats.new.net) c.order_seats.result c.as_mut_slice.ensures.value (sym is)
    (record { cares = e.cares; holds = e.holds; journals = e.journals })

pub returns-clause-seats : goal.returns-clause-seats
returns-clause-seats g c =
    let S = g.S.HasHistory in let i = c.self.inside in
    cares_seats (OrdersAt c.args.what) S.history (room_of S.kept_from S.spare) i.thread (meaning i.config.now) i.seats.items (with_items i.seats c.order_seats.new.seats).items i.turns.items i.last
    (sessions_of i.sessions.items) (g.N.Net.state c.args.net.now) (g.N.Net.state c.order_seats.new.net) c.order_seats.result (done g c) c.self.invariant.has
    (subst HasSeats (sym c.self.view_is) c.requires.seats)
