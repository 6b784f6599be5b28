use Rattle.hx_places_load.proofs.Noting.{keeps}
use Rattle.hx_places_load.proofs.worker.Worker.set_draining.Goals as goal

pub invariant_of-self : goal.invariant_of-self
invariant_of-self c = record {
  rests = c.set_draining.ensures.rest;
  has = keeps _ _ _ c.set_draining.ensures.goes c.args.self.now.has;
}
