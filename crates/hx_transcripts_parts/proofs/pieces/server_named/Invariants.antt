use Rattle.std.proofs.Common.{◌≡◌, drop}
use Rattle.hx_transcripts_parts.specs.Pieces.{server_from}
use Rattle.hx_transcripts_parts.proofs.pieces.server_named.Given as goal

abbrev pub invariant-loop-i : goal.invariant-loop-i
invariant-loop-i l = server_from l.i l.back l.server (drop l.i l.servers) ≡ server_from 0 l.back l.server l.servers
