use Rattle.std.proofs.Common.{◌≡◌, drop}
use Rattle.hx_config.specs.Meaning.{all_served}
use Rattle.hx_config.proofs.finish.serve_all.Given as goal

abbrev pub invariant-loop-i : goal.invariant-loop-i
invariant-loop-i l = all_served l.i l.fronts (drop l.i l.backs) ≡ all_served 0 l.fronts l.backs
