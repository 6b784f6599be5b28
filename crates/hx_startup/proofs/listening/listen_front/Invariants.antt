use Rattle.std.proofs.Common.{take}
use Rattle.hx_startup.specs.Listens.{Listens, binds_at}
use Rattle.hx_startup.proofs.listening.listen_front.Given as goal

abbrev pub invariant-loop-address : goal.invariant-loop-address
invariant-loop-address g l = Listens (g.D.Door.state l.initial.door) (g.D.Door.state l.door) (binds_at l.front (take l.address-index l.binds))
