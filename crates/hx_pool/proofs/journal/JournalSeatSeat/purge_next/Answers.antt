use Rattle.hx_pool.proofs.Journals.{kept_on, stores}
use Rattle.hx_pool.proofs.journal.JournalSeatSeat.purge_next.Goals as goal

pub invariant_of-self : goal.invariant_of-self
invariant_of-self g c = kept_on (g.S.HasHistory.history c.self.inside.seat) (g.S.HasHistory.history c.purge_next-result.new.self) _ _ _ _ _ _ c.self.invariant c.purge_next-result.ensures.grows c.last.ensures c.keep_both.ensures.whole

pub returns-clause-kept : goal.returns-clause-kept
returns-clause-kept g c = rw (← c.self.view_is) (stores (g.S.HasHistory.history c.self.inside.seat) (g.S.HasHistory.history c.purge_next-result.new.self) _ _ _ _ _ _ _ _ c.purge_next-result.ensures.grows c.last.ensures c.keep_both.ensures.whole c.keep_both.ensures.fits)

pub returns-clause-quota : goal.returns-clause-quota
returns-clause-quota g c = rw (← c.self.view_is) c.purge_next-result.ensures.quota
