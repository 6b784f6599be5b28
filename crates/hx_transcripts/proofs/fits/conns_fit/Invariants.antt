use Rattle.std.proofs.Common.{All, take}
use Rattle.hx_transcripts.specs.Fits.{FitsConnBytes}
use Rattle.hx_transcripts.proofs.fits.conns_fit.Given as goal

abbrev pub invariant-loop-conn : goal.invariant-loop-conn
invariant-loop-conn l = All FitsConnBytes (take l.conn-index l.conns)
