use Rattle.hx_session_parts.proofs.OnWayLemmas.{ask_begins, ask_goes_on, ask_ends}
use Rattle.hx_session_parts.proofs.on_way.requests_pass_whole.Goals as goal

pub returns-clause-begins : goal.returns-clause-begins
returns-clause-begins c = ask_begins

pub returns-clause-goes_on : goal.returns-clause-goes_on
returns-clause-goes_on c = ask_goes_on

pub returns-clause-ends : goal.returns-clause-ends
returns-clause-ends c = ask_ends
