use Rattle.std.proofs.Common.{◌∙◌, subst, rules}
use Rattle.httparse.specs.Grammar.{HasNoRequest, MayBecomeRequest}
use Rattle.httparse.specs.Spans.{IsRequestOf}
use Rattle.hx_head.specs.declared.refusal.Refusal.TheVariants.{TooLong, Version}
use Rattle.hx_head.specs.Causes.{HasOldRequest}
use Rattle.hx_head.proofs.CauseLemmas.{front_all, old_request}
use Rattle.hx_head.proofs.request.read_request.Goals as goal

pub returns-else-head-eq1-clause-cause : goal.returns-else-head-eq1-clause-cause
returns-else-head-eq1-clause-cause c =
    let found : IsRequestOf c.front_of.result.now c.parse_request.new.headers c.in-Ok-Complete.head = search rules in
    let old = old_request c.front_of.result.now _ c.in-Ok-Complete.head found c.parse_request.auto.headers c.if-head-eq1.false in
    (Version, c.code.ensures, subst HasOldRequest c.front_of.ensures.front old)

pub returns-then-bytes-lt-HEAD_LIMIT-clause-cause : goal.returns-then-bytes-lt-HEAD_LIMIT-clause-cause
returns-then-bytes-lt-HEAD_LIMIT-clause-cause c =
    let all = c.front_of.ensures.front ∙ front_all c.args.bytes.now c.if-bytes-lt-HEAD_LIMIT.true in
    let none : HasNoRequest c.front_of.result.now = search rules in
    let unfinished : MayBecomeRequest c.front_of.result.now = search rules in
    (c.if-bytes-lt-HEAD_LIMIT.true, subst HasNoRequest all none, subst MayBecomeRequest all unfinished)

pub returns-else-bytes-lt-HEAD_LIMIT-clause-cause : goal.returns-else-bytes-lt-HEAD_LIMIT-clause-cause
returns-else-bytes-lt-HEAD_LIMIT-clause-cause c =
    let none : HasNoRequest c.front_of.result.now = search rules in
    let unfinished : MayBecomeRequest c.front_of.result.now = search rules in
    (TooLong, c.code-else-bytes-lt-HEAD_LIMIT.ensures, (c.if-bytes-lt-HEAD_LIMIT.false, subst HasNoRequest c.front_of.ensures.front none, subst MayBecomeRequest c.front_of.ensures.front unfinished))
