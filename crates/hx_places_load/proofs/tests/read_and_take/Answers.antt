use Rattle.hx_places_load.proofs.tests.read_and_take.Goals as goal

pub drains_now-requires : goal.drains_now-requires
drains_now-requires c = record { parked = (_, _, c.requires.parked) }

pub take_back-requires-clause-due : goal.take_back-requires-clause-due
take_back-requires-clause-due c = c.drains_now.ensures.drains _ _ c.requires.parked c.if-drains_now.true
