use Rattle.std.proofs.Common.{refl}
use Rattle.hx_places_load.proofs.Noting.{rests_more, has_new}
use Rattle.hx_places_load.proofs.steps.open_one.Goals as goal

pub returns-clause-rest : goal.returns-clause-rest
returns-clause-rest c = rests_more c.args.seat.now c.draw-id.new.self _ c.draw-id.ensures.notes c.requires.rest refl

pub returns-clause-has : goal.returns-clause-has
returns-clause-has c = (
  has_new c.args.seat.now c.draw-id.new.self _ _ c.draw-id.result c.draw-id.ensures.notes,
  c.draw-id.ensures.id.0,
  c.draw-id.ensures.id.1,
)
