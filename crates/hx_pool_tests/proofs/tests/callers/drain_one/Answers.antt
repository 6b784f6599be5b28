use Rattle.std.proofs.Common.{List, false, sym, subst}
use Rattle.hx_base.specs.declared.numbers.SessionNo.{SessionNo}
use Rattle.hx_pool.specs.declared.entries.Note.{Note}
use Rattle.hx_pool.specs.Held.{Has}
use Rattle.hx_pool.specs.Causes.{nth_place}
use Rattle.hx_pool.proofs.Calls.{has_taken}
use Rattle.hx_pool_tests.proofs.tests.callers.drain_one.Goals as goal

pub close-requires : goal.close-requires
close-requires g c =
    let old = g.S.HasHistory.history c.args.seat.now in
    let t = c.in-Some.ensures.answer in
    let f = c.in-Some.card.face in
    let zero : SessionNo = record { 0 = 0 } in
    (f.uses, subst (λ (l : List Note). Has l zero f.id.0 f.uses) (sym t.takes.makes.mine) (has_taken old.mine t.takes.looks old.about.thread zero false (nth_place old.about.thread old.about.threads t.at) f t.takes.count))
