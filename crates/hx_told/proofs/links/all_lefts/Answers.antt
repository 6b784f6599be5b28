use Rattle.std.proofs.Common.{arith}
use Rattle.std.proofs.lemmas.Grind.{common_steps}
use Rattle.std.proofs.lemmas.List.Elements.{filter_map-append}
use Rattle.hx_told.proofs.links.all_lefts.Goals as goal

pub loop-told-preserved : goal.loop-told-preserved
loop-told-preserved c = grind (arith, common_steps, filter_map-append)
