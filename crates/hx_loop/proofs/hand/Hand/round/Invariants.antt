use Rattle.std.proofs.Common.{◌-◌, ◌^◌}
use Rattle.hx_loop.proofs.hand.Hand.round.Given as goal

abbrev pub decreases-loop-n : goal.decreases-loop-n
decreases-loop-n g l = 2 ^ 32 - l.after.0
