use Rattle.hx_places_load.proofs.Noting.{all_rest}
use Rattle.hx_places_load.proofs.worker.seats_of.Goals as goal

pub returns : goal.returns
returns c = all_rest c.args.board.now c.in_ok-seats.seats.items c.in_ok-seats.ensures.seats c.requires.ours
