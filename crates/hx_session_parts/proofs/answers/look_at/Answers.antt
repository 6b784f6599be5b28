use Rattle.std.proofs.Common.{◌∙◌, sym, arith}
use Rattle.hx_session_parts.proofs.LookLemmas.{breaks_switch, breaks_frame}
use Rattle.hx_session_parts.proofs.answers.look_at.Goals as goal

pub returns-then-head-eq101 : goal.returns-then-head-eq101
returns-then-head-eq101 c = breaks_switch c.args.method c.args.bytes.now c.args.head c.requires.head c.requires.short c.if-head-eq101.true

pub returns-in-Err : goal.returns-in-Err
returns-in-Err c =
    breaks_frame c.args.method c.args.bytes.now c.args.head c.in-Err.field-0 c.requires.head c.requires.short (omega (arith, c.if-head-lt200.false))
    (λ g at. sym c.in-Err.is ∙ c.body_of_answer.ensures g at)
