use Rattle.hx_transcripts_parts.proofs.TotalsLemmas.{totals_sound, totals_whole}
use Rattle.hx_transcripts_parts.proofs.laws.totals_read_back.Goals as goal

pub returns-clause-sound : goal.returns-clause-sound
returns-clause-sound c = totals_sound

pub returns-clause-whole : goal.returns-clause-whole
returns-clause-whole c = totals_whole
