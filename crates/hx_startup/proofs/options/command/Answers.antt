use Rattle.std.proofs.Common.{◌≡◌, ◌∙◌, ap, ap₂, codes}
use Rattle.std.proofs.lemmas.Result.{IfOk-weaker}
use Rattle.clap.specs.Words.{app_of, new_app, with_rule}
use Rattle.clap.specs.declared.builder.command.Command.TheOpen.{Command-F}
use Rattle.clap.specs.declared.builder.command.Command.{Command}
use Rattle.clap.specs.Simple.{app_of_fields}
use Rattle.hx_startup.specs.Options.{without_name, config_rule, threads_rule}
use Rattle.hx_startup.proofs.options.command.Goals as goal

pub returns : goal.returns
returns c =
    let start_is : app_of c.no_binary_name-command.result ≡ without_name (new_app (codes "hx_proxy")) =
    ap (λ (f : Command-F Command). app_of_fields f) c.no_binary_name-command.ensures ∙ ap without_name c.new.ensures.app in
    let one_is : app_of c.in_ok-arg.field-0 ≡ with_rule (without_name (new_app (codes "hx_proxy"))) config_rule =
    c.in_ok-arg.ensures.shape c.config_arg.ensures.local ∙ ap₂ with_rule start_is c.config_arg.ensures.rule in
    let two_is : app_of c.in_ok-arg-2.field-0 ≡ with_rule (with_rule (without_name (new_app (codes "hx_proxy"))) config_rule) threads_rule =
    c.in_ok-arg-2.ensures.shape c.threads_arg.ensures.local ∙ ap₂ with_rule one_is c.threads_arg.ensures.rule in
    IfOk-weaker c.arg-3.result _ _ (λ m h. h.shape c.check_arg.ensures.local ∙ ap₂ with_rule two_is c.check_arg.ensures.rule) c.arg-3.ensures
