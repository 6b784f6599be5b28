use Rattle.hx_plain.specs.Row.{rests_of}
use Rattle.hx_plain.proofs.Looks.{ran_none, ran_more}
use Rattle.hx_plain.proofs.row.look_for_resting.Goals as goal

pub loop-count-init : goal.loop-count-init
loop-count-init g c = ran_none c.args.ledger.now c.args.t (rests_of g.V.Faced.shows c.args.resting.now) c.args.from

pub loop-count-preserved : goal.loop-count-preserved
loop-count-preserved g c = ran_more c.args.ledger.now c.loop-count.ledger c.write.new.self c.args.t (rests_of g.V.Faced.shows c.args.resting.now) c.args.from c.loop-count.count c.loop-count.invariant c.in_default.ensures c.write.ensures
