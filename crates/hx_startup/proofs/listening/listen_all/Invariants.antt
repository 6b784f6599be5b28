use Rattle.std.proofs.Common.{take}
use Rattle.hx_startup.specs.Listens.{Listens, binds_of}
use Rattle.hx_startup.proofs.listening.listen_all.Given as goal

abbrev pub invariant-loop-i : goal.invariant-loop-i
invariant-loop-i g l = Listens (g.D.Door.state l.initial.door) (g.D.Door.state l.door) (binds_of 0 (take l.i l.fronts))
