use Rattle.std.proofs.Common.{◌≡◌, ◌≤◌}
use Rattle.hx_rows.specs.Steps.{IsAtRest}
use Rattle.hx_takeover.specs.Scans.{PassesRows}
use Rattle.hx_takeover.proofs.scan.scan_rows.Given as goal

abbrev pub invariant-loop-step : goal.invariant-loop-step
invariant-loop-step g l = record {
  passes : PassesRows l.initial.seat l.seat l.first l.step;
  rest : IsAtRest l.seat;
  ahead : 1 ≤ l.step;
  threads : l.threads ≡ l.initial.seat.view.terms.threads;
}
