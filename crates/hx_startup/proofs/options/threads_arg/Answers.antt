use Rattle.std.proofs.Common.{◌≡◌, ◌∙◌, ap, codes, Some}
use Rattle.std.specs.Prelude.{pos, Option}
use Rattle.clap.specs.Words.{Rule, rule_of}
use Rattle.clap.specs.declared.builder.ArgAction.TheVariants.{Set}
use Rattle.clap.specs.declared.builder.value_parser.ValueParser.{ValueParser}
use Rattle.clap.specs.declared.builder.value_parser.ValueParser.TheVariants as vp
use Rattle.hx_startup.proofs.options.threads_arg.Goals as goal

pub returns-clause-rule : goal.returns-clause-rule
returns-clause-rule c =
    let given = c.value_parser-2.ensures.given in
    let made : c.range.result ≡ vp.Signed (pos 1) (pos 16) = rw c.value_parser.ensures at c.range.ensures in
    let is : c.value_parser-2.result.value_parser ≡ Some (vp.Signed (pos 1) (pos 16)) = given.1 ∙ ap Some (given.2 ∙ made) in
    ap rule_of c.help.ensures
    ∙ ap rule_of c.value_parser-2.ensures.others
    ∙ ap (λ (p : Option ValueParser). record (rule_of c.action.result) { parser = p }) is
    ∙ ap (λ (r : Rule). record r { parser = Some (vp.Signed (pos 1) (pos 16)) }) (ap rule_of c.action.ensures
    ∙ ap (λ (r : Rule). record r { action = Some Set }) (ap rule_of c.long.ensures
    ∙ ap (λ (r : Rule). record r { long = Some (codes "threads") }) c.new.ensures.rule))
