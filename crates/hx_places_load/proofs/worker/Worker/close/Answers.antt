use Rattle.hx_places_load.proofs.worker.Worker.close.Goals as goal

pub close_one-requires-clause-has : goal.close_one-requires-clause-has
close_one-requires-clause-has c = c.args.self.now.has c.in-Some.face c.in-Some.is
