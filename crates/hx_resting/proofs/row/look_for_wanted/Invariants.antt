use Rattle.std.proofs.Common.{◌≡◌, true}
use Rattle.hx_resting.specs.Rows.{rests_of}
use Rattle.hx_resting.specs.Row.{Ran, is_wanted}
use Rattle.hx_resting.proofs.row.look_for_wanted.Given as goal

abbrev pub invariant-loop-count : goal.invariant-loop-count
invariant-loop-count g l = record {
  ran : Ran (g.D.Desk.page l.initial.desk) (g.D.Desk.page l.desk) l.t l.threads (is_wanted l.wanted) (rests_of g.V.Faced.shows l.resting) l.from l.count;
  out : (g.D.Desk.page l.desk).view.out ≡ true;
}
