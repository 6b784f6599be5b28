use Rattle.hx_check_records.proofs.LookLemmas.{request_in_front, request_stands}
use Rattle.hx_check_records.proofs.looks.look_request.Goals as goal

pub returns-in-Whole : goal.returns-in-Whole
returns-in-Whole c =
    let at = c.in-Whole.ensures.whole in
    (at.0, request_stands c.args.bytes.now c.in-Whole.head at.0 at.1 c.in-Whole.ensures.cause)

pub returns-in-More : goal.returns-in-More
returns-in-More c = λ g body begins short.
    let r = request_in_front c.args.bytes.now body g _ begins.reads short in
    c.in-More.ensures.found g r.0 r.1 begins.version short.fields_few

pub returns-in-Refused : goal.returns-in-Refused
returns-in-Refused c = λ g body begins short.
    let r = request_in_front c.args.bytes.now body g _ begins.reads short in
    c.in-Refused.ensures.found g r.0 r.1 begins.version short.fields_few
