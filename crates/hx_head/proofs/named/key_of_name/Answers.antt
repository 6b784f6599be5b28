use Rattle.std.proofs.Common.{arith, ap, ◌∙◌}
use Rattle.std.specs.Prelude.{fold}
use Rattle.std.proofs.lemmas.List.{take_all}
use Rattle.hx_head.specs.Staying.{add_byte, key_of}
use Rattle.hx_head.proofs.named.key_of_name.Goals as goal

pub returns : goal.returns
unfolding key_of
returns c = c.loop-b.invariant ∙ ap (fold add_byte 0) (take_all c.loop-b.b-index c.args.name.now (omega arith))
