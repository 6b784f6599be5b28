use Rattle.hx_frame.proofs.EndLemmas.{one_body_end, one_request_end, one_answer_end}
use Rattle.hx_frame.proofs.ends.one_end.Goals as goal

pub returns-clause-body : goal.returns-clause-body
returns-clause-body c = one_body_end

pub returns-clause-request : goal.returns-clause-request
returns-clause-request c = one_request_end

pub returns-clause-answer : goal.returns-clause-answer
returns-clause-answer c = one_answer_end
