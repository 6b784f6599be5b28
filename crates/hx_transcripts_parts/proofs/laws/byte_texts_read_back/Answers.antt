use Rattle.hx_transcripts_parts.proofs.TextLemmas.{texts_read}
use Rattle.hx_transcripts_parts.proofs.laws.byte_texts_read_back.Goals as goal

pub returns : goal.returns
returns c = texts_read
