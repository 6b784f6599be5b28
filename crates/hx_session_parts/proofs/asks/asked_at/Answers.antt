use Rattle.hx_session_parts.proofs.AgainLemmas.{none_more, none_refused}
use Rattle.hx_session_parts.proofs.asks.asked_at.Goals as goal

pub unreachable-requires : goal.unreachable-requires
unreachable-requires c = absurd (none_more c.args.bytes.now c.requires c.in-More.ensures)

pub unreachable-requires-in-Refused : goal.unreachable-requires-in-Refused
unreachable-requires-in-Refused c = absurd (none_refused c.args.bytes.now c.in-Refused.field-0 c.requires c.in-Refused.ensures)
