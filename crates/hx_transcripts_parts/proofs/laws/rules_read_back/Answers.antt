use Rattle.hx_transcripts_parts.proofs.TotalsLemmas.{rules_read}
use Rattle.hx_transcripts_parts.proofs.laws.rules_read_back.Goals as goal

pub returns : goal.returns
returns c = rules_read
