use Rattle.std.proofs.Common.{All, take}
use Rattle.hx_transcripts_parts.specs.RecordLaws.{FitsTold}
use Rattle.hx_transcripts.proofs.fits.records_fit.Given as goal

abbrev pub invariant-loop-told : goal.invariant-loop-told
invariant-loop-told l = All FitsTold (take l.told-index l.records)
