use Rattle.std.proofs.Common.{◌≡◌}
use Rattle.hx_rows.specs.Steps.{IsAtRest, Scans}
use Rattle.hx_rows.proofs.steps.find_vacant.Given as goal

abbrev pub invariant-loop-number : goal.invariant-loop-number
invariant-loop-number g l = record {
  scans : Scans l.initial.seat l.seat l.number;
  rest : IsAtRest l.seat;
  row : l.row ≡ l.initial.seat.view.thread.0;
}
