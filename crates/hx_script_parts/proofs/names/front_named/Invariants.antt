use Rattle.std.proofs.Common.{◌≡◌, drop}
use Rattle.hx_script_parts.specs.Names.{front_from}
use Rattle.hx_script_parts.proofs.names.front_named.Given as goal

abbrev pub invariant-loop-i : goal.invariant-loop-i
invariant-loop-i l = front_from l.i l.name (drop l.i l.fronts) ≡ front_from 0 l.name l.fronts
