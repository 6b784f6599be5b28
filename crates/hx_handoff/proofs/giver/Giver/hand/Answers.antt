use Rattle.std.proofs.Common.{sym}
use Rattle.hx_handoff.proofs.Steps.{hands, last_held}
use Rattle.hx_handoff.proofs.giver.Giver.hand.Goals as goal

pub push_as-requires-clause-rule : goal.push_as-requires-clause-rule
push_as-requires-clause-rule g c =
    (hands _ _ _ _ c.self.invariant.gives (sym c.self.invariant.number), last_held _ _ c.self.invariant.gives)
