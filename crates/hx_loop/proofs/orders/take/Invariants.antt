use Rattle.std.proofs.Common.{◌≡◌}
use Rattle.hx_loop.proofs.orders.take.Given as goal

abbrev pub invariant-loop-byte : goal.invariant-loop-byte
invariant-loop-byte g l = (g.K.Sink.state l.sink).faults ≡ (g.K.Sink.state l.initial.sink).faults
