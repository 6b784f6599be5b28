use Rattle.hx_link.proofs.PlanLemmas.{IsPassed}
use Rattle.hx_link.proofs.next_plan.find_plan.Given as goal

abbrev pub invariant-loop-i : goal.invariant-loop-i
invariant-loop-i l = IsPassed l.server l.plans l.i
