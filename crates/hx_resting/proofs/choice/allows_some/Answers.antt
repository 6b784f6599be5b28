use Rattle.std.proofs.Common.{◌≡◌, Bool, true, false, refl, ap, ◌∙◌}
use Rattle.hx_base.specs.declared.rules.Mode.{Mode}
use Rattle.hx_base.specs.declared.rules.Mode.TheVariants as mode
use Rattle.hx_pool.specs.Rules.{allows}
use Rattle.hx_resting.proofs.choice.allows_some.Goals as goal

twice_used : (first : Bool) → allows mode.Aggressive first 2 ≡ true
twice_used first = elim first as (λ b. allows mode.Aggressive b 2 ≡ true) [ true ↦ refl | false ↦ refl ]

pub returns-in-Aggressive : goal.returns-in-Aggressive
returns-in-Aggressive c = (2, ap (λ (m : Mode). allows m c.args.first 2) c.in-Aggressive.is ∙ twice_used c.args.first)
