use Rattle.hx_transcripts_parts.proofs.MarkLemmas.{mark_sound, mark_whole}
use Rattle.hx_transcripts_parts.proofs.laws.marks_read_back.Goals as goal

pub returns-clause-sound : goal.returns-clause-sound
returns-clause-sound c = mark_sound

pub returns-clause-whole : goal.returns-clause-whole
returns-clause-whole c = mark_whole
