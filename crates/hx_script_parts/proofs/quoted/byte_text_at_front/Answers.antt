use Rattle.hx_script_parts.proofs.ByteTextLemmas.{read_at_front, found_at_front}
use Rattle.hx_script_parts.proofs.quoted.byte_text_at_front.Goals as goal

pub returns-clause-read : goal.returns-clause-read
returns-clause-read c = read_at_front

pub returns-clause-found : goal.returns-clause-found
returns-clause-found c = found_at_front
