use Rattle.std.proofs.Common.{◌<◌, arith, sym, subst}
use Rattle.hx_base.specs.declared.numbers.ThreadNo.{ThreadNo}
use Rattle.hx_places_load.proofs.Noting.{has_still}
use Rattle.hx_places_load.proofs.tests.claim_first.Goals as goal

pub claim_at-requires-clause-board : goal.claim_at-requires-clause-board
claim_at-requires-clause-board c = (
  subst (λ (t : ThreadNo). t.0 < c.args.parker.now.view.terms.threads) (sym c.thread.ensures.thread) c.thread.ensures.stands.low,
  omega arith,
)

pub returns-clause-has : goal.returns-clause-has
returns-clause-has c = has_still _ _ c.args.opened c.claim_at.ensures.goes c.requires.has
