use Rattle.std.proofs.Common.{refl}
use Rattle.hx_places_load.proofs.Noting.{rests_more, goes_more}
use Rattle.hx_places_load.proofs.steps.set_draining.Goals as goal

pub returns-clause-rest : goal.returns-clause-rest
returns-clause-rest c = rests_more c.args.seat.now c.set_gate.new.self _ c.set_gate.ensures.notes c.requires.rest refl

pub returns-clause-goes : goal.returns-clause-goes
returns-clause-goes c = goes_more c.args.seat.now c.set_gate.new.self _ c.set_gate.ensures.notes (λ i o. refl)
