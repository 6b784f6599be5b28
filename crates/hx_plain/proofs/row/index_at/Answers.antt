use Rattle.std.proofs.Common.{arith, ap, ◌∙◌}
use Rattle.hx_plain.specs.declared.rest.Rest.{Rest}
use Rattle.hx_plain.proofs.Looks.{cut_at}
use Rattle.hx_plain.proofs.row.index_at.Goals as goal

pub returns-then-resting-i : goal.returns-then-resting-i
returns-then-resting-i g c = cut_at g.V.Faced.shows c.args.resting.now c.loop-i.i c.index-resting-i.result c.args.place (omega arith) c.index-resting-i.is (ap (λ (y : Rest g.row.V.Denot). y.place) c.index-resting-i.is ∙ c.if-resting-i.true)
