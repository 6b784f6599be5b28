use Rattle.std.proofs.Common.{[], ◌∷◌, ◌++◌, refl, arith}
use Rattle.atomic_table.specs.Table.{keeps}
use Rattle.hx_plain.proofs.ledger.Ledger.add.Goals as goal

pub load-requires : goal.load-requires
load-requires g c = (c.self.invariant.0, omega (arith, c.self.invariant.1), λ s held wide me fits. (c.self.inside.token.me.0 ++ g.W.Says.note ∷ [], keeps, tt, tt, refl))
