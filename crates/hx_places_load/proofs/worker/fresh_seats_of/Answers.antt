use Rattle.hx_places_load.proofs.Noting.{all_fresh}
use Rattle.hx_places_load.proofs.worker.fresh_seats_of.Goals as goal

pub returns : goal.returns
returns c = all_fresh c.args.board.now c.in_ok-seats.seats.items c.in_ok-seats.ensures.seats c.requires.ours
