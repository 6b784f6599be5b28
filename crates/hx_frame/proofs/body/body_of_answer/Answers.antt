use Rattle.std.proofs.Common.{◌&&◌, ℕ, length, sym, ap, ◌∙◌}
use Rattle.std.proofs.lemmas.Result.{err_from_is_err_and}
use Rattle.std.specs.Prelude.{codes, ◌==◌, nat_lt}
use Rattle.hx_message.specs.Fields.{read_fields, values_of}
use Rattle.hx_message.specs.Body.{is_bodiless}
use Rattle.hx_frame.proofs.KindLemmas.{found_of_answer, bodiless, unknown_coding, answer_by_fields}
use Rattle.hx_frame.proofs.body.body_of_answer.Goals as goal

pub returns-then-is_bodiless : goal.returns-then-is_bodiless
returns-then-is_bodiless c g at =
    bodiless c.args.method g (ap (is_bodiless c.args.method) (sym at.status) ∙ sym c.is_bodiless.ensures ∙ c.if-is_bodiless.true)

pub returns-then-has_coding_of_old : goal.returns-then-has_coding_of_old
returns-then-has_coding_of_old c g at =
    let found = found_of_answer c.args.bytes.now c.args.head.now g c.framing_fields-found.result at c.framing_fields-found.ensures in
    let has_body = ap (is_bodiless c.args.method) (sym at.status) ∙ sym c.is_bodiless.ensures ∙ c.if-is_bodiless.false in
    let values = values_of (codes "Transfer-Encoding") (read_fields g.fields) in
    unknown_coding c.args.method g has_body
    (ap (λ (n : ℕ). n == 0 && nat_lt 0 (length values)) (sym at.version)
    ∙ sym (c.has_coding_of_old.ensures c.args.bytes.now values found.coding) ∙ c.if-has_coding_of_old.true)

pub returns-in_err-kind_by_fields : goal.returns-in_err-kind_by_fields
returns-in_err-kind_by_fields c g at =
    let found = found_of_answer c.args.bytes.now c.args.head.now g c.framing_fields-found.result at c.framing_fields-found.ensures in
    let has_body = ap (is_bodiless c.args.method) (sym at.status) ∙ sym c.is_bodiless.ensures ∙ c.if-is_bodiless.false in
    let values = values_of (codes "Transfer-Encoding") (read_fields g.fields) in
    let known = ap (λ (n : ℕ). n == 0 && nat_lt 0 (length values)) (sym at.version)
    ∙ sym (c.has_coding_of_old.ensures c.args.bytes.now values found.coding) ∙ c.if-has_coding_of_old.false in
    let p = err_from_is_err_and c.from_residual.result c.from_residual.ensures.1 in
    rw (p.1, p.2) (answer_by_fields c.args.method g _ has_body known (sym (c.kind_by_fields.ensures (read_fields g.fields) found) ∙ c.in_err-kind_by_fields.was))

pub returns : goal.returns
returns c g at =
    let found = found_of_answer c.args.bytes.now c.args.head.now g c.framing_fields-found.result at c.framing_fields-found.ensures in
    let has_body = ap (is_bodiless c.args.method) (sym at.status) ∙ sym c.is_bodiless.ensures ∙ c.if-is_bodiless.false in
    let values = values_of (codes "Transfer-Encoding") (read_fields g.fields) in
    let known = ap (λ (n : ℕ). n == 0 && nat_lt 0 (length values)) (sym at.version)
    ∙ sym (c.has_coding_of_old.ensures c.args.bytes.now values found.coding) ∙ c.if-has_coding_of_old.false in
    c.or_to_end.ensures
    ∙ answer_by_fields c.args.method g _ has_body known (sym (c.kind_by_fields.ensures (read_fields g.fields) found) ∙ c.in_ok-kind_by_fields.was)
