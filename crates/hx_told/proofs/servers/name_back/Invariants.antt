use Rattle.std.proofs.Common.{◌≡◌, ◌++◌, map, take}
use Rattle.hx_told.specs.Servers.{named_of}
use Rattle.hx_told.proofs.servers.name_back.Given as goal

abbrev pub invariant-loop-server : goal.invariant-loop-server
invariant-loop-server l = l.names.items ≡ l.fn.names.items ++ map (named_of l.back) (take l.server-index l.back.servers)
