use Rattle.std.proofs.Common.{◌≡◌, ◌++◌, drop}
use Rattle.hx_script.specs.LinkLines.{totals_lines}
use Rattle.hx_script.proofs.print.put_all_totals.Given as goal

-- what was written, and what is still to be written
abbrev pub invariant-loop-i : goal.invariant-loop-i
invariant-loop-i l = l.out.items ++ totals_lines (drop l.i l.servers) (drop l.i l.totals) ≡ l.initial.out.items ++ totals_lines l.servers l.totals
