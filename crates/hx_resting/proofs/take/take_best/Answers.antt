use Rattle.hx_resting.specs.Rows.{rests_of}
use Rattle.hx_resting.proofs.Chosen.{took_best}
use Rattle.hx_resting.proofs.take.take_best.Goals as goal

pub returns-clause-took : goal.returns-clause-took
returns-clause-took g c =
    let shows = g.V.Faced.shows in
    let best = rw c.as_slice.ensures.value at c.in-Some.ensures in
    took_best (g.D.Desk.page c.args.desk.now) (g.D.Desk.page c.take_at.new.desk) (rests_of shows c.args.resting.now.items) (rests_of shows c.take_at.new.resting.items) c.args.taker.t c.args.taker.n c.args.taker.first c.args.mode c.in-Some.i _ best c.take_at.ensures.took
