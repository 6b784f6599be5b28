use Rattle.std.proofs.Common.{◌≡◌}
use Rattle.hx_drill_parts.specs.Load.{copies}
use Rattle.hx_drill_parts.proofs.text.repeat.Given as goal

abbrev pub invariant-loop-turn : goal.invariant-loop-turn
invariant-loop-turn l = l.all.items ≡ copies l.turn l.text
