use Rattle.hx_resting.specs.Rows.{rests_of}
use Rattle.hx_lockboard.proofs.Orders.{first_other}
use Rattle.hx_lockboard.proofs.other_rows.first_in_row.Goals as goal

pub returns : goal.returns
returns g c = first_other c.args.request.t c.args.request.threads (rests_of g.V.Faced.shows c.args.resting.now) c.args.request.mode c.args.request.first c.args.step c.first_in_list-2.result c.in_default.ensures c.first_in_list-2.ensures
