use Rattle.std.proofs.Common.{sym, ◌∙◌, arith}
use Rattle.std.proofs.lemmas.Bool.{eqb-false}
use Rattle.hx_config_parts.proofs.Endings.{dropped_return, kept_line}
use Rattle.hx_config_parts.proofs.lines.trimmed.Goals as goal

pub returns-then-line-last-eq13 : goal.returns-then-line-last-eq13
returns-then-line-last-eq13 c =
    let some = eqb-false _ _ (sym c.is_empty.ensures ∙ c.if-is_empty.false) in
    sym (dropped_return c.args.line.now (omega (arith, some)) c.if-line-last-eq13.true)

pub returns-else-line-last-eq13 : goal.returns-else-line-last-eq13
returns-else-line-last-eq13 c = sym (kept_line c.args.line.now (λ some e. c.if-line-last-eq13.false e))
