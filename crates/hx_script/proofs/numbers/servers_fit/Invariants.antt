use Rattle.std.proofs.Common.{All, take}
use Rattle.hx_script.specs.Numbers.{HasServerNumbers}
use Rattle.hx_script.proofs.numbers.servers_fit.Given as goal

abbrev pub invariant-loop-part : goal.invariant-loop-part
invariant-loop-part l = All HasServerNumbers (take l.part-index l.servers)
