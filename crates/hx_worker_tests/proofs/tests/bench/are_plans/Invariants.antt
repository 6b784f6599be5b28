use Rattle.std.proofs.Common.{All, take}
use Rattle.hx_link.specs.MemoryNets.{IsPlan}
use Rattle.hx_worker_tests.proofs.tests.bench.are_plans.Given as goal

abbrev pub invariant-loop-plan : goal.invariant-loop-plan
invariant-loop-plan l = All IsPlan (take l.plan-index l.plans)
