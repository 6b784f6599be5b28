use Rattle.hx_places_load.proofs.Noting.{keeps}
use Rattle.hx_places_load.proofs.worker.Worker.count.Goals as goal

pub invariant_of-self : goal.invariant_of-self
invariant_of-self c = record {
  rests = c.count_all.ensures.rest;
  has = keeps _ _ _ c.count_all.ensures.goes c.args.self.now.has;
}
