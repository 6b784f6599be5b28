use Rattle.std.proofs.Common.{◌≤◌}
use Rattle.hx_rows.specs.Steps.{IsAtRest}
use Rattle.hx_purge.specs.Sweeps.{PassesTo}
use Rattle.hx_purge.proofs.sweep.sweep.Given as goal

abbrev pub invariant-loop-at : goal.invariant-loop-at
invariant-loop-at g l = record {
  passes : PassesTo l.initial.seat l.seat l.from l.at;
  rest : IsAtRest l.seat;
  ahead : l.from ≤ l.at;
}
