-- Why orders end.
use Rattle.std.specs.Prelude.{◌≡◌, Option, Some, None}
use Rattle.hx_base.specs.Counts.{Rose}
use Rattle.hx_link.specs.Told.{SourceState, SinkState}
use Rattle.hx_loop.specs.declared.orders_end.OrdersEnd.{OrdersEnd}
use Rattle.hx_loop.specs.declared.orders_end.OrdersEnd.TheVariants as end

-- a fault of the sink has its cause, and else the sink counted none
abbrev pub OnEnd : SinkState → SinkState → OrdersEnd → Type 0
OnEnd old new end.SinkFault = Rose old.faults new.faults
OnEnd old new end.SourceFault = ⊥
OnEnd old new e = new.faults ≡ old.faults

-- the same after a line behind which the orders may go on
abbrev pub OnLine : SinkState → SinkState → Option OrdersEnd → Type 0
OnLine old new None = new.faults ≡ old.faults
OnLine old new (Some e) = OnEnd old new e

-- a fault of the source or of the sink has its cause, and else the sink counted none
abbrev pub EndsFor : SourceState → SourceState → SinkState → SinkState → OrdersEnd → Type 0
EndsFor source source' sink sink' end.SourceFault = Rose source.faults source'.faults × (sink'.faults ≡ sink.faults)
EndsFor source source' sink sink' e = OnEnd sink sink' e
