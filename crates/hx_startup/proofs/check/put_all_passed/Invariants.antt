use Rattle.std.proofs.Common.{◌≡◌, ◌++◌, take}
use Rattle.std.specs.List.{flat_map}
use Rattle.hx_startup.specs.Starts.{passed_line}
use Rattle.hx_startup.proofs.check.put_all_passed.Given as goal

abbrev pub invariant-loop-line : goal.invariant-loop-line
invariant-loop-line l = l.out.items ≡ l.initial.out.items ++ flat_map passed_line (take l.line-index l.lines)
