use Rattle.std.proofs.Common.{refl}
use Rattle.hx_places_load.proofs.Noting.{rests_more, goes_more, seen_vacant}
use Rattle.hx_places_load.proofs.steps.look_at.Goals as goal

pub returns-clause-rest : goal.returns-clause-rest
returns-clause-rest c = rests_more c.args.seat.now c.look.new.self _ c.look.ensures.notes c.requires.rest refl

pub returns-clause-goes : goal.returns-clause-goes
returns-clause-goes c = goes_more c.args.seat.now c.look.new.self _ c.look.ensures.notes (λ i o. refl)

pub returns-clause-vacant : goal.returns-clause-vacant
returns-clause-vacant c = λ is. seen_vacant c.args.seat.now c.look.new.self _ c.args.place c.look.result c.look.ensures.notes is
