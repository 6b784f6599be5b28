use Rattle.std.proofs.Common.{◌<◌, ℕ, length, subst, sym, ap}
use Rattle.hx_config.specs.Limits.{all_servers}
use Rattle.hx_config.specs.Meaning.{Meaning}
use Rattle.hx_base.specs.declared.numbers.ServerNo.{ServerNo}
use Rattle.hx_loop.proofs.Servers.{there_below}
use Rattle.hx_loop.proofs.hand.Hand.run.Goals as goal

pub order-requires-clause-there : goal.order-requires-clause-there
order-requires-clause-there g c =
    subst (λ (n : ℕ). n < length (all_servers c.self.inside.worker.config.backs)) (ap (λ (s : ServerNo). s.0) c.server_of.ensures)
    (subst (λ (m : Meaning). c.server_of.result.0 < length (all_servers m.backs)) (sym c.self.invariant.config)
    (there_below _ c.server_of.result.0 _ (sym c.in-Some.ensures)))
