use Rattle.std.proofs.Common.{◌≡◌, drop}
use Rattle.std.specs.Prelude.{slice_get}
use Rattle.hx_config.specs.Limits.{all_servers}
use Rattle.hx_config.proofs.config.Config.server.Given as goal

abbrev pub invariant-loop-back : goal.invariant-loop-back
invariant-loop-back l = slice_get (all_servers (drop l.back-index l.self.backs)) l.at ≡ slice_get (all_servers l.self.backs) l.fn.no.0
