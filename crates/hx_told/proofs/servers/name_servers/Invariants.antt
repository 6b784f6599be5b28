use Rattle.std.proofs.Common.{◌≡◌, take}
use Rattle.hx_told.specs.Servers.{named_servers}
use Rattle.hx_told.proofs.servers.name_servers.Given as goal

abbrev pub invariant-loop-back : goal.invariant-loop-back
invariant-loop-back l = l.names.items ≡ named_servers (take l.back-index l.config.backs)
