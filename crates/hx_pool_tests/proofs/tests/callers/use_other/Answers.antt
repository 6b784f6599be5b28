use Rattle.std.proofs.Common.{◌∷◌, List, sym, subst}
use Rattle.hx_pool.specs.declared.entries.Note.{Note}
use Rattle.hx_pool.specs.Held.{Has}
use Rattle.hx_pool.specs.Takeover.{counted}
use Rattle.hx_pool.proofs.Calls.{has_taken}
use Rattle.hx_pool_tests.proofs.tests.callers.use_other.Goals as goal

pub park_again-requires-clause-has : goal.park_again-requires-clause-has
park_again-requires-clause-has g c =
    let old = g.S.HasHistory.history c.args.seat.now in
    let t = c.in-Ok.ensures.answer in
    let f = c.in-Ok.card.face in
    subst (λ (l : List Note). Has l c.args.n f.id.0 f.uses) (sym t.takes.makes.mine) (has_taken old.mine (counted old.about.thread t.c ∷ t.takes.looks) old.about.thread c.args.n c.args.first t.place f t.takes.count)
