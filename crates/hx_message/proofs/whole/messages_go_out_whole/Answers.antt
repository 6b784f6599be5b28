use Rattle.hx_message.proofs.WholeLemmas.{goes_out_whole, answer_goes_out_whole}
use Rattle.hx_message.proofs.whole.messages_go_out_whole.Goals as goal

pub returns-clause-request : goal.returns-clause-request
returns-clause-request c = goes_out_whole

pub returns-clause-answer : goal.returns-clause-answer
returns-clause-answer c = answer_goes_out_whole
