use Rattle.std.proofs.Common.{refl}
use Rattle.hx_places_load.proofs.Noting.{rests_more, goes_more}
use Rattle.hx_places_load.proofs.steps.count_all.Goals as goal

pub returns-clause-rest : goal.returns-clause-rest
returns-clause-rest c = rests_more c.args.seat.now c.count.new.self _ c.count.ensures.notes c.requires.rest refl

pub returns-clause-goes : goal.returns-clause-goes
returns-clause-goes c = goes_more c.args.seat.now c.count.new.self _ c.count.ensures.notes (λ i o. refl)
