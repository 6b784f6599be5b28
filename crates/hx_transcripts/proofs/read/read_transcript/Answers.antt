use Rattle.hx_transcripts.proofs.Soundness.{meaning_sound, text_printed}
use Rattle.hx_transcripts.proofs.read.read_transcript.Goals as goal

pub transcript_of-requires : goal.transcript_of-requires
transcript_of-requires c = (meaning_sound c.args.text.now c.in-Ok.parts c.in-Ok.ensures).form

pub returns-in-Ok-clause-spells : goal.returns-in-Ok-clause-spells
returns-in-Ok-clause-spells c = text_printed c.args.text.now c.in-Ok.parts c.transcript_of.result c.in-Ok.ensures c.transcript_of.ensures

pub returns-in-Ok-clause-short : goal.returns-in-Ok-clause-short
returns-in-Ok-clause-short c = (meaning_sound c.args.text.now c.in-Ok.parts c.in-Ok.ensures).short
