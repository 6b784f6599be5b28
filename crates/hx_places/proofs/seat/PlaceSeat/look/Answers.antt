use Rattle.hx_places.proofs.Wording.{look_said}
use Rattle.hx_places.proofs.seat.PlaceSeat.look.Goals as goal

pub looked-requires-clause-said : goal.looked-requires-clause-said
looked-requires-clause-said g c = look_said c.args.self.now.view.thread c.args.place
