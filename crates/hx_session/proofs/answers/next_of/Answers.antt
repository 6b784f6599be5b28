use Rattle.hx_session.proofs.answers.next_of.Goals as goal

pub returns-in_default : goal.returns-in_default
returns-in_default g c = c.has_bad_answer.ensures.0 c.if-has_bad_answer.true
