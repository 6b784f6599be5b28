use Rattle.hx_session.proofs.OwnLemmas.{unavailable_text}
use Rattle.hx_session.proofs.DecidedLemmas.{own_stage_is}
use Rattle.std.proofs.Common.{None}
use Rattle.hx_session.proofs.asks.after_connect.Goals as goal

pub answer-requires-clause-known : goal.answer-requires-clause-known
answer-requires-clause-known g c = unavailable_text

pub returns-in-Refused-clause-own : goal.returns-in-Refused-clause-own
returns-in-Refused-clause-own g c = own_stage_is _ 503 None c.answer.ensures.stage
