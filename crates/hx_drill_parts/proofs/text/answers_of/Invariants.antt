use Rattle.std.proofs.Common.{◌≡◌}
use Rattle.hx_drill_parts.specs.Load.{first_answers}
use Rattle.hx_drill_parts.proofs.text.answers_of.Given as goal

abbrev pub invariant-loop-number : goal.invariant-loop-number
invariant-loop-number l = l.text.items ≡ first_answers l.load.start l.session l.number
