use Rattle.hx_takeover.proofs.Rows.{row_first, row_one_by, row_end}
use Rattle.hx_takeover.proofs.scan.scan_row.Goals as goal

pub returns-in-Some-clause-answer : goal.returns-in-Some-clause-answer
returns-in-Some-clause-answer g c =
    row_first c.args.seat.now c.scan_list.new.seat c.args.n c.args.first c.args.row c.in-Some.over.place (g.V.Faced.shows c.in-Some.over.v) c.in-Some.ensures.answer

pub returns-then-not-allows_in-clause-answer : goal.returns-then-not-allows_in-clause-answer
returns-then-not-allows_in-clause-answer g c =
    row_one_by c.args.seat.now c.scan_list.new.seat c.args.first c.args.row c.rules.result c.in_default.ensures.answer c.rules.ensures (c.allows_in.ensures c.if-not-allows_in.true)

pub returns-clause-answer : goal.returns-clause-answer
returns-clause-answer g c =
    row_end g.V.Faced.shows c.args.seat.now c.scan_list.new.seat c.scan_list-2.new.seat c.args.n c.args.first c.args.row c.scan_list-2.result c.in_default.ensures.answer c.scan_list-2.ensures.answer
