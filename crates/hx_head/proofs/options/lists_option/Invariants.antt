use Rattle.std.proofs.Common.{◌≡◌, length}
use Rattle.hx_head.specs.Options.{lists_option}
use Rattle.hx_head.proofs.options.lists_option.Given as goal

abbrev pub invariant-loop-comma : goal.invariant-loop-comma
invariant-loop-comma l = lists_option l.option l.rest ≡ lists_option l.option l.value

abbrev pub decreases-loop-comma : goal.decreases-loop-comma
decreases-loop-comma l = length l.rest
