use Rattle.std.proofs.Common.{sym, subst}
use Rattle.hx_config.specs.Views.{meaning}
use Rattle.hx_worker.specs.Workers.{HasSeats}
use Rattle.hx_serve.proofs.Beginning.{begin_seats}
use Rattle.hx_serve.proofs.crew.hand_of.Goals as goal

pub new-requires : goal.new-requires
new-requires g c = record { seats = begin_seats _ (meaning c.into_parts-seats.result.1.now) _ _ c.into_parts-seats.ensures.begin }

pub new-requires-2-clause-seats : goal.new-requires-2-clause-seats
new-requires-2-clause-seats g c =
    subst HasSeats (sym c.in_ok-worker.ensures.begins) (begin_seats _ (meaning c.into_parts-seats.result.1.now) _ _ c.into_parts-seats.ensures.begin)
