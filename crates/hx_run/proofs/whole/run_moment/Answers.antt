use Rattle.std.proofs.Common.{arith}
use Rattle.hx_run.proofs.Coursing.{comes_moment}
use Rattle.hx_run.proofs.Working.{on_ok_map}
use Rattle.hx_run.proofs.whole.run_moment.Goals as goal

pub returns-clause-course : goal.returns-clause-course
returns-clause-course c =
    on_ok_map c.rounds.result
    (comes_moment c.args.now c.args.running.now c.run_orders.new.running c.run_clients.new.running c.tick.new.self c.rounds.new.self c.args.due.now c.run_orders.new.due c.run_clients.new.due
    c.run_orders.ensures.clients c.in_ok-run_orders.ensures.course c.in_ok-run_orders.ensures.other c.in_ok-run_clients.ensures.course c.run_clients.ensures.orders c.in_ok-tick.ensures.course)
    c.rounds.ensures.course

pub returns-clause-stops : goal.returns-clause-stops
returns-clause-stops c = λ is.
    comes_moment c.args.now c.args.running.now c.run_orders.new.running c.run_clients.new.running c.tick.new.self c.rounds.new.self c.args.due.now c.run_orders.new.due c.run_clients.new.due
    c.run_orders.ensures.clients c.in_ok-run_orders.ensures.course c.in_ok-run_orders.ensures.other c.in_ok-run_clients.ensures.course c.run_clients.ensures.orders c.in_ok-tick.ensures.course (c.rounds.ensures.stops is)

pub returns-clause-left : goal.returns-clause-left
returns-clause-left c = λ few.
    let orders = c.run_orders.ensures in
    let clients = c.run_clients.ensures in
    let tick = c.tick.ensures in
    c.rounds.ensures.left (omega (arith, few, orders.turns, orders.goes.most, clients.turns, clients.goes.most, tick.turns, tick.goes.most))
