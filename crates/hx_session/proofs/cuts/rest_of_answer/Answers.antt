use Rattle.std.proofs.Common.{subst}
use Rattle.hx_session.specs.declared.exchange.AnswerWay.{AnswerWay}
use Rattle.hx_session.specs.Answering.{CarriesAnswer}
use Rattle.hx_session.proofs.LookEnds.{body_found}
use Rattle.hx_session.proofs.cuts.rest_of_answer.Goals as goal

pub returns-in-Heads-clause-ends : goal.returns-in-Heads-clause-ends
returns-in-Heads-clause-ends c = λ wants written taken put k bad.
    c.find_answer_end.ensures.ends taken put (subst (λ (a : AnswerWay). CarriesAnswer a wants written c.args.method taken put) c.in-Heads.is k)

pub returns-in-Body-clause-ends : goal.returns-in-Body-clause-ends
returns-in-Body-clause-ends c = λ wants written taken put k bad.
    body_found c.args.answer.now c.in-Body.body wants written c.args.method taken put c.args.down.now.bytes c.whole.result.now c.find_end.result k c.in-Body.is bad c.whole.ensures.value c.find_end.ensures.ends
