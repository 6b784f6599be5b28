use Rattle.hx_script_parts.proofs.ByteTextLemmas.{same_byte_text, spelling_quotes}
use Rattle.hx_script_parts.proofs.quoted.one_byte_text.Goals as goal

pub returns-clause-alone : goal.returns-clause-alone
returns-clause-alone c = same_byte_text

pub returns-clause-spelling : goal.returns-clause-spelling
returns-clause-spelling c = spelling_quotes
