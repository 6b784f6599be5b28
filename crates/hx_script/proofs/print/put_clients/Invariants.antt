use Rattle.std.proofs.Common.{◌≡◌, ◌++◌, take}
use Rattle.std.specs.List.{flat_map}
use Rattle.hx_script.specs.LinkLines.{client_lines}
use Rattle.hx_script.proofs.print.put_clients.Given as goal

abbrev pub invariant-loop-client : goal.invariant-loop-client
invariant-loop-client l = l.out.items ≡ l.initial.out.items ++ flat_map client_lines (take l.client-index l.clients)
