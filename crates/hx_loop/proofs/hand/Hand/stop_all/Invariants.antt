use Rattle.std.proofs.Common.{length}
use Rattle.hx_loop.proofs.hand.Hand.stop_all.Given as goal

abbrev pub decreases-loop : goal.decreases-loop
decreases-loop g l = length l.self.worker.sessions
