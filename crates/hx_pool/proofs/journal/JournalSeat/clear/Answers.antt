use Rattle.hx_pool.proofs.Journals.{kept_anew}
use Rattle.hx_pool.proofs.journal.JournalSeat.clear.Goals as goal

pub invariant_of-self : goal.invariant_of-self
invariant_of-self g c = kept_anew (g.S.HasHistory.history c.self.inside.seat) _ _ c.clear.ensures.items
