use Rattle.hx_session.proofs.OwnLemmas.{gateway_text}
use Rattle.hx_session.proofs.answers.bad_gateway.Goals as goal

pub returns-clause-known : goal.returns-clause-known
returns-clause-known c = gateway_text
