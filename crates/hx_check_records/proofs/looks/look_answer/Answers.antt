use Rattle.hx_check_records.proofs.LookLemmas.{answer_in_front, answer_stands, least}
use Rattle.hx_check_records.proofs.looks.look_answer.Goals as goal

pub look_at-requires : goal.look_at-requires
look_at-requires c =
    let at = c.in-Whole.ensures.whole in
    (at.0, answer_stands c.args.bytes.now c.in-Whole.head at.0 at.1 c.in-Whole.ensures.cause)

pub returns-in-More : goal.returns-in-More
returns-in-More c = λ g body reads kind short.
    let r = answer_in_front c.args.bytes.now body g _ reads short in
    c.in-More.ensures.found g r.0 r.1 (least g kind) short.fields_few

pub returns-in-Refused : goal.returns-in-Refused
returns-in-Refused c = λ g body reads kind short.
    let r = answer_in_front c.args.bytes.now body g _ reads short in
    c.in-Refused.ensures.found g r.0 r.1 (least g kind) short.fields_few
