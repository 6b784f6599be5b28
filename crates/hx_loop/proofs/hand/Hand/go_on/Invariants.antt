use Rattle.std.specs.Prelude.{IsSome}
use Rattle.hx_worker.specs.Workers.{session_of}
use Rattle.hx_loop.proofs.hand.Hand.go_on.Given as goal

abbrev pub invariant-loop : goal.invariant-loop
invariant-loop g l = IsSome (session_of l.self.worker.sessions l.n.0)
