use Rattle.std.proofs.Common.{◌∙◌, subst, rules}
use Rattle.httparse.specs.Grammar.{HasNoResponse, MayBecomeResponse}
use Rattle.httparse.specs.Spans.{IsResponseOf}
use Rattle.hx_head.specs.declared.refusal.Refusal.TheVariants.{TooLong, Status}
use Rattle.hx_head.specs.Causes.{HasLowAnswer}
use Rattle.hx_head.proofs.CauseLemmas.{front_all, low_answer}
use Rattle.hx_head.proofs.answer.read_answer.Goals as goal

pub returns-else-head-ge100-clause-cause : goal.returns-else-head-ge100-clause-cause
returns-else-head-ge100-clause-cause c =
    let found : IsResponseOf c.front_of.result.now c.parse_response.new.headers c.in-Ok-Complete.head = search rules in
    let low = low_answer c.front_of.result.now _ c.in-Ok-Complete.head found c.parse_response.auto.headers c.if-head-ge100.false in
    (Status, c.code.ensures, subst HasLowAnswer c.front_of.ensures.front low)

pub returns-then-bytes-lt-HEAD_LIMIT-clause-cause : goal.returns-then-bytes-lt-HEAD_LIMIT-clause-cause
returns-then-bytes-lt-HEAD_LIMIT-clause-cause c =
    let all = c.front_of.ensures.front ∙ front_all c.args.bytes.now c.if-bytes-lt-HEAD_LIMIT.true in
    let none : HasNoResponse c.front_of.result.now = search rules in
    let unfinished : MayBecomeResponse c.front_of.result.now = search rules in
    (c.if-bytes-lt-HEAD_LIMIT.true, subst HasNoResponse all none, subst MayBecomeResponse all unfinished)

pub returns-else-bytes-lt-HEAD_LIMIT-clause-cause : goal.returns-else-bytes-lt-HEAD_LIMIT-clause-cause
returns-else-bytes-lt-HEAD_LIMIT-clause-cause c =
    let none : HasNoResponse c.front_of.result.now = search rules in
    let unfinished : MayBecomeResponse c.front_of.result.now = search rules in
    (TooLong, c.code-else-bytes-lt-HEAD_LIMIT.ensures, (c.if-bytes-lt-HEAD_LIMIT.false, subst HasNoResponse c.front_of.ensures.front none, subst MayBecomeResponse c.front_of.ensures.front unfinished))
