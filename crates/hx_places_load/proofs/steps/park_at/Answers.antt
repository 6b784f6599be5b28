use Rattle.hx_places_load.proofs.Noting.{has_still}
use Rattle.hx_places_load.proofs.steps.park_at.Goals as goal

pub returns-in_default : goal.returns-in_default
returns-in_default c = record {
  rest = c.in_default.ensures.claims;
  has = has_still _ _ c.args.face c.in_default.ensures.goes c.requires.has;
}

pub publish_at-held-requires-clause-has : goal.publish_at-held-requires-clause-has
publish_at-held-requires-clause-has c = has_still _ _ c.args.face c.in-Some.ensures.goes c.requires.has
