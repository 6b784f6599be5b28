use Rattle.std.proofs.Common.{List, [], ap, sym, subst, arith}
use Rattle.hx_config.specs.Views.{meaning}
use Rattle.hx_link.specs.MemoryNets.{MemoryNetNow}
use Rattle.hx_record.specs.declared.served.Told.{Told}
use Rattle.hx_worker.specs.Workers.{WorkerNow}
use Rattle.hx_run.specs.Runs.{IsWorking}
use Rattle.hx_run.proofs.Beginning.{begin_seats, begin_working}
use Rattle.hx_run.proofs.Coursing.{Has}
use Rattle.hx_run.proofs.Ending.{begins_course}
use Rattle.hx_run.proofs.running.Running.new.Goals as goal

pub new-requires-2 : goal.new-requires-2
new-requires-2 c = record { seats = begin_seats (meaning c.args.config.now) _ _ c.in_ok-seats.ensures.begin }

pub invariant_of-result : goal.invariant_of-result
invariant_of-result c = record {
  working = subst IsWorking (sym c.in_ok-worker.ensures.begins) (begin_working (meaning c.args.config.now) _ c.args.config.now.within c.in_ok-seats.ensures.begin c.in_ok-seats.ensures.whole);
  loop = ap (λ (n : MemoryNetNow). n.state.loop_no) c.in_ok-net.ensures.begins;
  within = omega arith;
}

pub returns-clause-course : goal.returns-clause-course
returns-clause-course c = λ moments.
    let plans = c.args.plans.items in
    let state = c.in_ok-net.net.state in
    subst (λ (records : List Told). Has plans moments [] [] c.in_ok-worker.worker state records 0) (sym c.new-3.ensures.items)
    (subst (λ (w : WorkerNow). Has plans moments [] [] w state [] 0) (sym c.in_ok-worker.ensures.begins)
    (begins_course (meaning c.args.config.now) _ _ plans moments c.args.room c.in_ok-net.net c.args.config.now.within.numbered c.in_ok-seats.ensures.begin c.in_ok-net.ensures.begins))
