use Rattle.hx_pool.specs.Taking.{taken}
use Rattle.hx_places.proofs.Wording.{take_won, take_lost}
use Rattle.hx_places.proofs.seat.PlaceSeat.take_at.Goals as goal

pub took_at-requires-clause-won : goal.took_at-requires-clause-won
took_at-requires-clause-won g c =
    take_won (taken c.args.self.now.view.thread c.args.n c.args.first c.args.place c.args.face)
    c.args.self.now.view.thread c.args.place c.args.face

pub took_at-requires-clause-lost : goal.took_at-requires-clause-lost
took_at-requires-clause-lost g c =
    take_lost (taken c.args.self.now.view.thread c.args.n c.args.first c.args.place c.args.face)
    c.args.self.now.view.thread c.args.place c.args.face c.requires.takes.face
