use Rattle.hx_rows.proofs.Stepping.{looks_rest}
use Rattle.hx_rows.proofs.Parking.{scans_more, finds}
use Rattle.hx_rows.proofs.steps.find_vacant.Goals as goal

pub returns-in-Empty : goal.returns-in-Empty
returns-in-Empty g c =
    finds c.args.seat.now c.loop-number.seat c.look.new.self c.loop-number.number c.thread-row.result.0 c.loop-number.invariant.scans c.loop-number-test.true
    c.loop-number.invariant.row c.in-Empty.ensures.notes

pub loop-number-preserved : goal.loop-number-preserved
loop-number-preserved g c =
    let s = scans_more c.args.seat.now c.loop-number.seat c.look.new.self c.loop-number.number c.thread-row.result.0 c.look.result c.loop-number.invariant.scans
    c.loop-number.invariant.row c.look.ensures.notes c.in_default.not-Empty in record {
      scans = s;
      rest = looks_rest c.args.seat.now c.look.new.self s.looks s.steps s.looked c.requires.rest;
      row = c.loop-number.invariant.row;
    }
