use Rattle.std.proofs.Common.{◌≡◌, sym, ap, ◌∙◌}
use Rattle.hx_session.specs.declared.exchange.AnswerWay.TheVariants.{Body}
use Rattle.hx_session.specs.declared.exchange.BodyWay.{BodyWay}
use Rattle.hx_session.proofs.answers.has_bad_answer.Goals as goal

same_body : (p q : BodyWay) → Body p ≡ Body q → p ≡ q
same_body p q z = cc

pub returns-in-Body : goal.returns-in-Body
returns-in-Body g c = (
  λ t. (c.in-Body.body, c.in-Body.is, c.is_bad.ensures.0 t),
  λ h. c.is_bad.ensures.1 (ap (λ (b : BodyWay). b.state) (same_body c.in-Body.body h.0 (sym c.in-Body.is ∙ h.1)) ∙ h.2),
)
