use Rattle.hx_places_load.proofs.Noting.{keeps}
use Rattle.hx_places_load.proofs.worker.Worker.raise.Goals as goal

pub invariant_of-self : goal.invariant_of-self
invariant_of-self c = record {
  rests = c.raise_to.ensures.rest;
  has = keeps _ _ _ c.raise_to.ensures.goes c.args.self.now.has;
}
