use Rattle.std.proofs.Common.{ap, ◌∙◌}
use Rattle.hx_handoff.proofs.Steps.{leaves, cuts}
use Rattle.hx_handoff.proofs.lanes.Lane.cut.Goals as goal

pub another-taker-requires-clause-rule : goal.another-taker-requires-clause-rule
another-taker-requires-clause-rule g c = leaves _ _ (ap (λ v. v.role) (c.args.self.now.unused c.requires.unused))

pub another-first-requires-clause-rule : goal.another-first-requires-clause-rule
another-first-requires-clause-rule g c =
    let is = c.another-taker.ensures.rule.1 ∙ c.args.self.now.unused c.requires.unused in
    cuts _ _ (ap (λ v. v.role) is) (ap (λ v. v.settled) is)

pub another-second-requires-clause-rule : goal.another-second-requires-clause-rule
another-second-requires-clause-rule g c =
    let is = c.another-taker.ensures.rule.1 ∙ c.args.self.now.unused c.requires.unused in
    let now = c.another-first.ensures.rule.0 in
    cuts _ _ (ap (λ v. v.role) now ∙ ap (λ v. v.role) is) (ap (λ v. v.settled) now ∙ ap (λ v. v.settled) is)
