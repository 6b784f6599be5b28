use Rattle.std.proofs.Common.{All, take}
use Rattle.hx_transcripts.specs.Fits.{FitsClient}
use Rattle.hx_transcripts.proofs.fits.clients_fit.Given as goal

abbrev pub invariant-loop-client : goal.invariant-loop-client
invariant-loop-client l = All FitsClient (take l.client-index l.clients)
