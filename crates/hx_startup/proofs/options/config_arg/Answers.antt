use Rattle.std.proofs.Common.{◌∙◌, ap, true, codes, Some}
use Rattle.clap.specs.Words.{Rule, rule_of}
use Rattle.clap.specs.declared.builder.ArgAction.TheVariants.{Set}
use Rattle.hx_startup.proofs.options.config_arg.Goals as goal

pub returns-clause-rule : goal.returns-clause-rule
returns-clause-rule c =
    ap rule_of c.help.ensures
    ∙ ap rule_of c.action.ensures
    ∙ ap (λ (r : Rule). record r { action = Some Set }) (ap rule_of c.required.ensures
    ∙ ap (λ (r : Rule). record r { required = true }) (ap rule_of c.long.ensures
    ∙ ap (λ (r : Rule). record r { long = Some (codes "config") }) c.new.ensures.rule))
