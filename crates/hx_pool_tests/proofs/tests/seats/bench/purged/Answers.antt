use Rattle.hx_pool.proofs.Caretaking.{fresh_stands}
use Rattle.hx_pool_tests.proofs.SeatCalls.{purge_stands}
use Rattle.hx_pool_tests.proofs.tests.seats.bench.purged.Goals as goal

pub loop-gone-init : goal.loop-gone-init
loop-gone-init c = fresh_stands c.args.seat.now.history c.due.new.self.history c.args.now c.in-Some.quota c.in-Some.ensures.answer

pub loop-gone-preserved : goal.loop-gone-preserved
loop-gone-preserved c = purge_stands _ c.loop-gone.seat.history c.purge_next.new.self.history c.loop-gone.quota c.purge_next.new.quota c.purge_next.result c.purge_next.ensures.answer c.loop-gone.invariant
