use Rattle.std.proofs.Common.{◌≡◌, drop}
use Rattle.hx_config.specs.Meaning.{place_from}
use Rattle.hx_config.proofs.finish.place_named.Given as goal

abbrev pub invariant-loop-i : goal.invariant-loop-i
invariant-loop-i l = place_from l.i l.name (drop l.i l.backs) ≡ place_from 0 l.name l.backs
