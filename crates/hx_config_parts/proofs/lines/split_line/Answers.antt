use Rattle.std.proofs.Common.{◌<◌, sym, ◌∙◌, arith, length}
use Rattle.std.proofs.lemmas.Bool.{eqb-true, eqb-false}
use Rattle.std.proofs.lemmas.List.{nil_from_length}
use Rattle.hx_config_parts.proofs.Endings.{without_feed, with_feed, no_lines}
use Rattle.hx_config_parts.proofs.lines.split_line.Goals as goal

pub returns-then-is_empty : goal.returns-then-is_empty
returns-then-is_empty c = no_lines c.args.rest.now (nil_from_length c.args.rest.now (eqb-true _ _ (sym c.is_empty.ensures ∙ c.if-is_empty.true)))

pub returns-then-n-rest : goal.returns-then-n-rest
returns-then-n-rest c =
    let some = eqb-false _ _ (sym c.is_empty.ensures ∙ c.if-is_empty.false) in
    rw (c.split_at.ensures.front, c.split_at.ensures.back)
    (without_feed c.args.rest.now c.line_len-n.result some c.line_len-n.ensures.len c.if-n-rest.true)

pub returns : goal.returns
returns c =
    let lt : c.line_len-n.result < length c.args.rest.now = omega arith in
    rw (c.trimmed.ensures, c.split_at-2.ensures.back) (with_feed c.args.rest.now c.line_len-n.result c.line_len-n.ensures.len lt)
