use Rattle.std.proofs.Common.{◌≡◌}
use Rattle.hx_loop.proofs.orders.read_orders.Given as goal

abbrev pub invariant-loop : goal.invariant-loop
invariant-loop g l =
    ((g.K.Sink.state l.sink).faults ≡ (g.K.Sink.state l.fn.sink).faults)
    × ((g.S.Source.state l.orders).faults ≡ (g.S.Source.state l.fn.orders).faults)
