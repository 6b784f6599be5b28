use Rattle.std.proofs.Common.{All, take}
use Rattle.hx_transcripts.specs.Fits.{FitsServer}
use Rattle.hx_transcripts.proofs.fits.servers_fit.Given as goal

abbrev pub invariant-loop-part : goal.invariant-loop-part
invariant-loop-part l = All FitsServer (take l.part-index l.servers)
