use Rattle.hx_transcripts_parts.proofs.RecordLemmas.{record_sound, record_whole}
use Rattle.hx_transcripts_parts.proofs.laws.records_read_back.Goals as goal

pub returns-clause-sound : goal.returns-clause-sound
returns-clause-sound c = record_sound

pub returns-clause-whole : goal.returns-clause-whole
returns-clause-whole c = record_whole
