use Rattle.std.proofs.Common.{◌∙◌, sym, subst}
use Rattle.hx_session_parts.specs.declared.fault.AskFault.{AskFault}
use Rattle.hx_session_parts.specs.Asks.{RefusesAsk}
use Rattle.hx_session_parts.proofs.LookLemmas.{refuses_head, refuses_frame, refuses_connect}
use Rattle.hx_session_parts.proofs.asks.look_ask.Goals as goal

pub returns-in-Refused : goal.returns-in-Refused
returns-in-Refused c = refuses_head c.args.bytes.now c.in-Refused.why c.fault_of_head.result c.in-Refused.ensures.cause c.fault_of_head.ensures

pub returns-in-Err : goal.returns-in-Err
returns-in-Err c =
    subst (λ (f : AskFault). RefusesAsk f c.args.bytes.now) (sym c.fault_of_frame.ensures)
    (refuses_frame c.args.bytes.now c.in-Whole.head c.in-Err.fault c.in-Whole.ensures.whole c.in-Whole.ensures.cause (λ g at. sym c.in-Err.is ∙ c.body_of_request.ensures g at))

pub returns-in-Ok : goal.returns-in-Ok
returns-in-Ok c =
    refuses_connect c.args.bytes.now c.in-Whole.head c.in-Ok.field-0 c.in-Whole.ensures.whole c.in-Whole.ensures.cause (c.is_connect.ensures.0 c.if-is_connect.true) (λ g at. sym c.in-Ok.is ∙ c.body_of_request.ensures g at)
