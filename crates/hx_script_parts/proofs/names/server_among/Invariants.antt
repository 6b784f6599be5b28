use Rattle.std.proofs.Common.{◌≡◌, drop}
use Rattle.hx_script_parts.specs.Names.{server_among}
use Rattle.hx_script_parts.proofs.names.server_among.Given as goal

abbrev pub invariant-loop-b : goal.invariant-loop-b
invariant-loop-b l = server_among l.word (drop l.b-index l.backs) ≡ server_among l.word l.backs
