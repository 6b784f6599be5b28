use Rattle.std.proofs.Common.{◌∙◌, length, ap}
use Rattle.hx_config.specs.Limits.{all_servers}
use Rattle.hx_config.specs.Meaning.{Meaning}
use Rattle.hx_loop.proofs.Servers.{as_many}
use Rattle.hx_loop.proofs.hand.Hand.add_totals.Goals as goal

pub loop-at-init : goal.loop-at-init
loop-at-init g c =
    as_many _ _ _ c.self.invariant.seats.serve ∙ ap (λ (m : Meaning). length (all_servers m.backs)) c.self.invariant.config
