use Rattle.hx_message.proofs.AgainLemmas.{goes_again, comes_again}
use Rattle.hx_message.proofs.again.heads_go_out_as_heads.Goals as goal

pub returns-clause-request : goal.returns-clause-request
returns-clause-request c = goes_again

pub returns-clause-answer : goal.returns-clause-answer
returns-clause-answer c = comes_again
