use Rattle.hx_transcripts.proofs.Completeness.{read_whole}
use Rattle.hx_transcripts.proofs.laws.is_read_back.Goals as goal

pub returns : goal.returns
returns c = λ text spells short. read_whole text c.args.t.now c.transcript_fits.ensures spells short
