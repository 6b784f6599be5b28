use Rattle.std.proofs.Common.{All, subst, arith}
use Rattle.std.proofs.lemmas.List.{take_all}
use Rattle.std.proofs.lemmas.List.Elements.{All-more}
use Rattle.hx_link.specs.MemoryNets.{IsPlan}
use Rattle.hx_worker_tests.proofs.tests.bench.are_plans.Goals as goal

pub loop-plan-preserved : goal.loop-plan-preserved
loop-plan-preserved c = All-more IsPlan c.args.plans.now c.loop-plan.plan-index c.plan-item.result (omega arith) c.loop-plan.invariant
    (subst IsPlan c.plan-item.is (c.is_plan.ensures c.if-not-is_plan.false))

pub returns : goal.returns
returns c = λ _. subst (All IsPlan) (take_all c.loop-plan.plan-index c.args.plans.now (omega arith)) c.loop-plan.invariant
