use Rattle.std.proofs.Common.{All, take}
use Rattle.hx_script.specs.Numbers.{HasClientNumbers}
use Rattle.hx_script.proofs.numbers.clients_fit.Given as goal

abbrev pub invariant-loop-client : goal.invariant-loop-client
invariant-loop-client l = All HasClientNumbers (take l.client-index l.clients)
