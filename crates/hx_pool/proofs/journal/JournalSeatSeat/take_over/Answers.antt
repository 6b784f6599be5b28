use Rattle.hx_pool.proofs.Journals.{kept_on, stores}
use Rattle.hx_pool.proofs.journal.JournalSeatSeat.take_over.Goals as goal

pub invariant_of-self : goal.invariant_of-self
invariant_of-self g c = kept_on (g.S.HasHistory.history c.self.inside.seat) (g.S.HasHistory.history c.take_over-result.new.self) _ _ _ _ _ _ c.self.invariant c.take_over-result.ensures.grows c.last.ensures c.keep_both.ensures.whole

pub returns-clause-kept : goal.returns-clause-kept
returns-clause-kept g c = rw (← c.self.view_is) (stores (g.S.HasHistory.history c.self.inside.seat) (g.S.HasHistory.history c.take_over-result.new.self) _ _ _ _ _ _ _ _ c.take_over-result.ensures.grows c.last.ensures c.keep_both.ensures.whole c.keep_both.ensures.fits)
