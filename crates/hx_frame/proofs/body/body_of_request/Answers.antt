use Rattle.std.proofs.Common.{sym, ◌∙◌}
use Rattle.std.proofs.lemmas.Result.{err_from_is_err_and}
use Rattle.std.specs.Prelude.{codes}
use Rattle.hx_message.specs.Fields.{read_fields, values_of}
use Rattle.hx_frame.proofs.KindLemmas.{found_of_request, faulty_request, one_host, bad_host}
use Rattle.hx_frame.proofs.body.body_of_request.Goals as goal

pub returns-in_err-kind : goal.returns-in_err-kind
returns-in_err-kind c g at =
    let found = found_of_request c.args.bytes.now c.args.head.now g c.framing_fields-found.result at c.framing_fields-found.ensures in
    let p = err_from_is_err_and c.from_residual.result c.from_residual.ensures.1 in
    rw (p.1, p.2) (faulty_request g _ (sym (c.kind_by_fields.ensures (read_fields g.fields) found) ∙ c.in_err-kind.was))

pub returns-then-is_once : goal.returns-then-is_once
returns-then-is_once c g at =
    let found = found_of_request c.args.bytes.now c.args.head.now g c.framing_fields-found.result at c.framing_fields-found.ensures in
    one_host g c.in_ok-kind.kind (sym (c.kind_by_fields.ensures (read_fields g.fields) found) ∙ c.in_ok-kind.was)
    (sym (c.is_once.ensures c.args.bytes.now (values_of (codes "Host") (read_fields g.fields)) found.host) ∙ c.if-is_once.true)

pub returns-else-is_once : goal.returns-else-is_once
returns-else-is_once c g at =
    let found = found_of_request c.args.bytes.now c.args.head.now g c.framing_fields-found.result at c.framing_fields-found.ensures in
    bad_host g c.in_ok-kind.kind (sym (c.kind_by_fields.ensures (read_fields g.fields) found) ∙ c.in_ok-kind.was)
    (sym (c.is_once.ensures c.args.bytes.now (values_of (codes "Host") (read_fields g.fields)) found.host) ∙ c.if-is_once.false)
