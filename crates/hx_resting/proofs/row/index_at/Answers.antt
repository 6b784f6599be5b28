use Rattle.std.proofs.Common.{arith, ap, ◌∙◌, sym}
use Rattle.hx_pool.specs.Table.{spot_no}
use Rattle.hx_resting.specs.declared.values.Rest.{Rest}
use Rattle.hx_resting.proofs.Looks.{cut_at}
use Rattle.hx_resting.proofs.row.index_at.Goals as goal

pub returns-then-number_of-place : goal.returns-then-number_of-place
returns-then-number_of-place g c = cut_at g.V.Faced.shows c.args.resting.now c.loop-i.i c.index-resting-i.result c.args.place (omega arith) c.index-resting-i.is
    (ap (λ (y : Rest g.row.V.Denot). spot_no y.place) c.index-resting-i.is ∙ (sym c.number_of.ensures ∙ c.if-number_of-place.true)) c.loop-i.invariant
