use Rattle.std.proofs.Common.{sym, ◌∙◌, ne_eqb}
use Rattle.hx_head.proofs.StayingLemmas.{other_keys}
use Rattle.hx_head.proofs.named.is_hit.Goals as goal

pub returns-else-key-name_key : goal.returns-else-key-name_key
returns-else-key-name_key c =
    ne_eqb c.args.key c.args.name_key c.if-key-name_key.false
    ∙ sym (other_keys c.args.option.now c.args.name.now (λ same. c.if-key-name_key.false (c.requires.option ∙ same ∙ sym c.requires.name)))
