use Rattle.hx_whole.proofs.AnswerLemmas.{answers_found, answers_have_heads, answers_end, answers_never_break, answers_end_once, answers_tell_end, answers_keep_kind}
use Rattle.hx_whole.proofs.whole_answers_pass.Goals as goal

pub returns-clause-found : goal.returns-clause-found
returns-clause-found c = answers_found

pub returns-clause-has_head : goal.returns-clause-has_head
returns-clause-has_head c = answers_have_heads

pub returns-clause-ends : goal.returns-clause-ends
returns-clause-ends c = answers_end

pub returns-clause-never_breaks : goal.returns-clause-never_breaks
returns-clause-never_breaks c = answers_never_break

pub returns-clause-once : goal.returns-clause-once
returns-clause-once c = answers_end_once

pub returns-clause-tells : goal.returns-clause-tells
returns-clause-tells c = answers_tell_end

pub returns-clause-kind : goal.returns-clause-kind
returns-clause-kind c = answers_keep_kind
