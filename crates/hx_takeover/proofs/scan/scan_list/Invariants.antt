use Rattle.hx_rows.specs.Steps.{IsAtRest}
use Rattle.hx_takeover.specs.Scans.{Passes}
use Rattle.hx_takeover.proofs.scan.scan_list.Given as goal

abbrev pub invariant-loop-number : goal.invariant-loop-number
invariant-loop-number g l = record {
  passes : Passes l.initial.seat l.seat l.first l.safe l.row l.number;
  rest : IsAtRest l.seat;
}
