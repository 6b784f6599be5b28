use Rattle.std.proofs.Common.{◌≡◌, vec_len}
use Rattle.hx_config.specs.Meaning.{all_placed}
use Rattle.hx_config.proofs.Finishing.{behind}
use Rattle.hx_config.proofs.finish.place_all.Given as goal

abbrev pub invariant-loop-rest : goal.invariant-loop-rest
invariant-loop-rest l = behind l.placed.items (all_placed l.backs l.rest.items) ≡ all_placed l.backs l.fn.fronts.items

abbrev pub decreases-loop-rest : goal.decreases-loop-rest
decreases-loop-rest l = vec_len l.rest
