use Rattle.std.proofs.Common.{◌≡◌, drop}
use Rattle.hx_script_parts.specs.Names.{server_in}
use Rattle.hx_script_parts.proofs.names.server_in.Given as goal

abbrev pub invariant-loop-s : goal.invariant-loop-s
invariant-loop-s l = server_in l.word l.back (drop l.s-index l.servers) ≡ server_in l.word l.back l.servers
