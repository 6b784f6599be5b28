use Rattle.hx_session_parts.proofs.OnWayLemmas.{interims_go_on, answer_begins, answer_goes_on, answer_ends, answer_runs_to_end}
use Rattle.hx_session_parts.proofs.on_way.answers_pass_whole.Goals as goal

pub returns-clause-interims : goal.returns-clause-interims
returns-clause-interims c = interims_go_on

pub returns-clause-begins : goal.returns-clause-begins
returns-clause-begins c = answer_begins

pub returns-clause-goes_on : goal.returns-clause-goes_on
returns-clause-goes_on c = answer_goes_on

pub returns-clause-ends : goal.returns-clause-ends
returns-clause-ends c = answer_ends

pub returns-clause-to_end : goal.returns-clause-to_end
returns-clause-to_end c = answer_runs_to_end
