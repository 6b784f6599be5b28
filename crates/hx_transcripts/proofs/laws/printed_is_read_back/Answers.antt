use Rattle.hx_transcripts.proofs.Completeness.{read_whole}
use Rattle.hx_transcripts.proofs.laws.printed_is_read_back.Goals as goal

pub returns : goal.returns
returns c = read_whole
