use Rattle.std.proofs.Common.{All, List, length, ap, subst, sym, ◌∙◌, arith}
use Rattle.std.proofs.lemmas.List.{take_all}
use Rattle.hx_config.specs.declared.parts.Back.{Back}
use Rattle.hx_told.specs.Servers.{HasNames, named_servers}
use Rattle.hx_told.specs.declared.servers.Named.{Named}
use Rattle.hx_told.proofs.Names.{all_named}
use Rattle.hx_told.proofs.servers.name_servers.Goals as goal

pub returns-clause-names : goal.returns-clause-names
returns-clause-names c =
    let backs = c.args.config.now.backs in
    let lens = ap (λ (bs : List Back). length bs) c.as_slice-back-items.ensures in
    let all = c.loop-back.invariant ∙ ap named_servers (take_all c.loop-back.back-index backs (omega (arith, lens))) in
    subst (λ (ns : List Named). All HasNames ns) (sym all) (all_named backs c.args.config.now.within.backs_named)
