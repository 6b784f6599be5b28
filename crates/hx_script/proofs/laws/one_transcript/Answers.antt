use Rattle.hx_script.proofs.OneTranscript.{one_text}
use Rattle.hx_script.proofs.laws.one_transcript.Goals as goal

pub returns : goal.returns
returns c = record { alone = one_text }
