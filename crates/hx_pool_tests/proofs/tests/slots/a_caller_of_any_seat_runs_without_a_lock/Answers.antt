use Rattle.hx_pool_tests.proofs.SeatCalls.{exchange_about, still_one}
use Rattle.hx_pool_tests.proofs.tests.slots.a_caller_of_any_seat_runs_without_a_lock.Goals as goal

pub tell-requires : goal.tell-requires
tell-requires g c =
    let same = exchange_about c.in_ok-a.field-0.a.history c.one_exchange.new.seat.history (record { 0 = 1 }) c.one_exchange.result c.one_exchange.ensures in
    still_one c.in_ok-a.field-0.a.history c.one_exchange.new.seat.history c.in_ok-a.field-0.c.history same c.in_ok-a.ensures.one
