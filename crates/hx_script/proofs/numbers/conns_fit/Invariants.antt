use Rattle.std.proofs.Common.{All, take}
use Rattle.hx_script.specs.Numbers.{HasConnNumbers}
use Rattle.hx_script.proofs.numbers.conns_fit.Given as goal

abbrev pub invariant-loop-conn : goal.invariant-loop-conn
invariant-loop-conn l = All HasConnNumbers (take l.conn-index l.conns)
