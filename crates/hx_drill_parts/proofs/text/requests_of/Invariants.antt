use Rattle.std.proofs.Common.{◌≡◌}
use Rattle.hx_drill_parts.specs.Load.{first_requests}
use Rattle.hx_drill_parts.proofs.text.requests_of.Given as goal

abbrev pub invariant-loop-number : goal.invariant-loop-number
invariant-loop-number l = l.text.items ≡ first_requests l.load.start l.session l.number
