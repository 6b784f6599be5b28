use Rattle.std.proofs.Common.{◌≡◌, ◌++◌, map, take, drop}
use Rattle.hx_config.specs.Sections.{with_mode}
use Rattle.hx_config.proofs.opening.set_modes.Given as goal

abbrev pub invariant-loop-server : goal.invariant-loop-server
invariant-loop-server l =
    l.servers ≡ map (with_mode l.mode) (take l.server-index l.initial.servers) ++ drop l.server-index l.initial.servers
