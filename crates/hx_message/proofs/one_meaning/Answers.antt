use Rattle.hx_message.proofs.Unique.{one_request, one_text, one_answer, begins_prefix, prefix_begins}
use Rattle.hx_message.proofs.one_meaning.Goals as goal

pub returns-clause-request : goal.returns-clause-request
returns-clause-request c = one_request

pub returns-clause-answer : goal.returns-clause-answer
returns-clause-answer c = one_text

pub returns-clause-head : goal.returns-clause-head
returns-clause-head c = one_answer

pub returns-clause-begins : goal.returns-clause-begins
returns-clause-begins c = begins_prefix

pub returns-clause-all : goal.returns-clause-all
returns-clause-all c = prefix_begins
