use Rattle.hx_places_load.proofs.Noting.{keeps}
use Rattle.hx_places_load.proofs.worker.Worker.look.Goals as goal

pub invariant_of-self : goal.invariant_of-self
invariant_of-self c = record {
  rests = c.look_at.ensures.rest;
  has = keeps _ _ _ c.look_at.ensures.goes c.args.self.now.has;
}
