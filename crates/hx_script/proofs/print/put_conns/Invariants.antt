use Rattle.std.proofs.Common.{◌≡◌, ◌++◌, take}
use Rattle.std.specs.List.{flat_map}
use Rattle.hx_script.specs.LinkLines.{conn_lines}
use Rattle.hx_script.proofs.print.put_conns.Given as goal

abbrev pub invariant-loop-conn : goal.invariant-loop-conn
invariant-loop-conn l = l.out.items ≡ l.initial.out.items ++ flat_map (conn_lines l.servers) (take l.conn-index l.conns)
