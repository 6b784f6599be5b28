use Rattle.hx_pool.proofs.Journals.{kept_anew}
use Rattle.hx_pool.proofs.journal.JournalSeat.new.Goals as goal

pub invariant_of-result : goal.invariant_of-result
invariant_of-result g c = kept_anew (g.S.HasHistory.history c.args.seat) _ _ c.new.ensures.items
