use Rattle.std.proofs.Common.{◌≡◌, ◌<◌, length, sym, subst, arith}
use Rattle.hx_connecting.specs.Journals.{room_of}
use Rattle.hx_caretaker.proofs.RowLemmas.{TicksTo, ticks_none, ticks_on, ticks_all}
use Rattle.hx_caretaker.proofs.rounds.tick_seats.Goals as goal

pub loop-seat-init : goal.loop-seat-init
loop-seat-init g c =
    let S = g.S.HasHistory in
    ticks_none c.args.now S.history (room_of S.kept_from S.spare) c.args.seats.now (g.N.Net.state c.args.net.now)

pub loop-seat-preserved : goal.loop-seat-preserved
loop-seat-preserved g c =
    let S = g.S.HasHistory in let e = c.tick_seat-count.ensures in
    let low : c.loop-seat.seat-index < length c.loop-seat.seats =
    subst (λ n. c.loop-seat.seat-index < n) (sym c.loop-seat.auto.seats) c.loop-seat-test.true in
    ticks_on c.args.now S.history (room_of S.kept_from S.spare) c.loop-seat.seat-index c.args.seats.now c.loop-seat.seats
    (g.N.Net.state c.args.net.now) (g.N.Net.state c.loop-seat.net) (g.N.Net.state c.tick_seat-count.new.net) c.loop-seat.count c.tick_seat-count.result
    c.seat-item.result c.tick_seat-count.new.seat c.loop-seat.invariant low e.cares e.holds e.journal

pub returns : goal.returns
returns g c =
    let S = g.S.HasHistory in
    let f = room_of S.kept_from S.spare in
    let high = c.loop-seat-test.false in let inside = c.loop-seat.auto.seat-index-end in
    let end : c.loop-seat.seat-index ≡ length c.args.seats.now = omega (arith, high, inside) in
    let t = ticks_all c.args.now S.history f c.args.seats.now c.loop-seat.seats (g.N.Net.state c.args.net.now) (g.N.Net.state c.loop-seat.net) c.loop-seat.count
    (subst (λ n. TicksTo c.args.now S.history f n c.args.seats.now c.loop-seat.seats (g.N.Net.state c.args.net.now) (g.N.Net.state c.loop-seat.net) c.loop-seat.count) end c.loop-seat.invariant) in
    record { cares = t.cares; holds = t.holds; journals = t.journals; size = t.size }
