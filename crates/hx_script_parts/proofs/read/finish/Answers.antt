use Rattle.hx_config.specs.Views as config
use Rattle.hx_script_parts.proofs.Soundness.{given_within}
use Rattle.hx_script_parts.proofs.read.finish.Goals as goal

pub invariant_of-result : goal.invariant_of-result
invariant_of-result c = record {
  within = given_within (config.meaning c.args.config) c.args.reading c.close.new.self c.add.new.self
      c.into_items.result c.into_items-2.result c.into_items-3.result c.in_ok-into_items.field-0 c.requires
      c.in_ok-close.ensures c.in_ok-add.ensures c.into_items.ensures c.into_items-2.ensures c.into_items-3.ensures c.in_ok-into_items.ensures;
}
