use Rattle.hx_places_load.proofs.worker.Worker.park.Goals as goal

pub park_at-rested-requires-clause-has : goal.park_at-rested-requires-clause-has
park_at-rested-requires-clause-has c = c.args.self.now.has c.in-Some.face c.in-Some.is
