use Rattle.std.proofs.Common.{◌≤◌, List, length, sym, ◌∙◌, subst}
use Rattle.std.proofs.lemmas.List.{with_items_is}
use Rattle.std.specs.Vec.{with_items}
use Rattle.hx_config.specs.Views.{meaning}
use Rattle.hx_config.specs.Limits.{all_servers}
use Rattle.hx_caretaker.specs.Rounds.{TicksAt}
use Rattle.hx_connecting.specs.Journals.{room_of}
use Rattle.hx_worker.specs.Workers.{HasSeats}
use Rattle.hx_worker.specs.Listed.{sessions_of}
use Rattle.hx_worker.proofs.Caring.{CaredAll, cared_of, cares_seats, seats_few}
use Rattle.hx_worker.proofs.worker.Worker.tick.Goals as goal

pub tick_seats-requires : goal.tick_seats-requires
tick_seats-requires g c =
    let S = g.S.HasHistory in let i = c.self.inside in
    let seats = subst HasSeats (sym c.self.view_is) c.requires.seats in
    record {
      few = subst (λ (l : List g.row.S.Denot). length l ≤ 32) (sym c.as_mut_slice.ensures.value)
          (seats_few S.history i.thread i.seats.items (all_servers i.config.now.backs) seats.serve i.config.now.within.servers_in);
    }

-- what the caretaker did, of the seats that the worker has
done : (g : _) (c : goal.After-self-1 g)
    → CaredAll (TicksAt c.args.now) g.S.HasHistory.history (room_of g.S.HasHistory.kept_from g.S.HasHistory.spare) c.self.inside.seats.items
    (with_items c.self.inside.seats c.tick_seats.new.seats).items (g.N.Net.state c.args.net.now) (g.N.Net.state c.tick_seats.new.net) c.tick_seats.result
done g c =
    let S = g.S.HasHistory in let i = c.self.inside in let h = S.history in let f = room_of S.kept_from S.spare in
    let e = c.tick_seats.ensures in
    let xs = with_items i.seats c.tick_seats.new.seats in
    let is = with_items_is i.seats c.tick_seats.new.seats (e.size ∙ c.as_mut_slice.ensures.len) in
    cared_of (TicksAt c.args.now) h f c.as_mut_slice.result.now i.seats.items c.tick_seats.new.seats xs.items
    (g.N.Net.state c.args.net.now) (g.N.Net.state c.tick_seats.new.net) c.tick_seats.result c.as_mut_slice.ensures.value (sym is)
    (record { cares = e.cares; holds = e.holds; journals = e.journals })

pub returns-clause-seats : goal.returns-clause-seats
returns-clause-seats g c =
    let S = g.S.HasHistory in let i = c.self.inside in
    cares_seats (TicksAt c.args.now) S.history (room_of S.kept_from S.spare) i.thread (meaning i.config.now) i.seats.items (with_items i.seats c.tick_seats.new.seats).items i.turns.items i.last
    (sessions_of i.sessions.items) (g.N.Net.state c.args.net.now) (g.N.Net.state c.tick_seats.new.net) c.tick_seats.result (done g c) c.self.invariant.has
    (subst HasSeats (sym c.self.view_is) c.requires.seats)
