use Rattle.hx_resting.specs.Row.{is_wanted}
use Rattle.hx_resting.specs.Rows.{rests_of}
use Rattle.hx_resting.proofs.Chosen.{swept}
use Rattle.hx_resting.proofs.take.sweep.Goals as goal

pub returns-clause-swept : goal.returns-clause-swept
returns-clause-swept g c =
    let shows = g.V.Faced.shows in
    let scan = rw c.as_slice-slice.ensures.value at c.in-Some.ensures in
    (scan.1, swept (g.D.Desk.page c.args.desk.now) (g.D.Desk.page c.look_for_wanted.new.desk) (g.D.Desk.page c.take_at-rest.new.desk) (rests_of shows c.args.resting.now.items) (rests_of shows c.take_at-rest.new.resting.items) c.args.taker.t c.args.threads c.args.taker.n c.args.taker.first (is_wanted c.args.wanted) c.args.from c.in-Some.passed c.in-Some.i _ scan.0 scan.2 c.take_at-rest.ensures.took)
