use Rattle.std.proofs.Common.{◌≡◌, true}
use Rattle.hx_resting.specs.Rows.{rests_of}
use Rattle.hx_resting.specs.Row.{Scanned}
use Rattle.hx_resting.proofs.row.look_for_vacant.Given as goal

abbrev pub invariant-loop-q : goal.invariant-loop-q
invariant-loop-q g l = record {
  scan : Scanned (g.D.Desk.page l.initial.desk) (g.D.Desk.page l.desk) l.t l.threads (rests_of g.V.Faced.shows l.resting) l.q l.q;
  out : (g.D.Desk.page l.desk).view.out ≡ true;
}
