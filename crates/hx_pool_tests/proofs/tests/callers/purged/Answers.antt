use Rattle.std.proofs.Common.{List, false, sym, ◌∙◌, subst, refl}
use Rattle.hx_base.specs.declared.numbers.SessionNo.{SessionNo}
use Rattle.hx_pool.specs.declared.entries.Note.{Note}
use Rattle.hx_pool.specs.Held.{Has}
use Rattle.hx_pool.specs.SeatView.{About}
use Rattle.hx_pool.specs.Causes.{nth_place}
use Rattle.hx_pool.specs.Purge.{StandsAt}
use Rattle.hx_pool.proofs.Calls.{has_taken}
use Rattle.hx_pool.proofs.Caretaking.{fresh_stands}
use Rattle.hx_pool_tests.proofs.tests.callers.purged.Goals as goal

pub loop-gone-init : goal.loop-gone-init
loop-gone-init g c =
    let h = g.S.HasHistory.history in
    record { stands = fresh_stands (h c.args.seat.now) (h c.due.new.self) c.args.now c.in-Some.quota c.in-Some.ensures.answer; about = refl }

pub close-requires : goal.close-requires
close-requires g c =
    let old = g.S.HasHistory.history c.loop-gone.seat in
    let t = c.in-Some-purge_next.ensures.answer in
    let f = c.in-Some-purge_next.card.face in
    let zero : SessionNo = record { 0 = 0 } in
    (f.uses, subst (λ (l : List Note). Has l zero f.id.0 f.uses) (sym t.takes.makes.mine) (has_taken old.mine t.takes.looks old.about.thread zero false (nth_place old.about.thread old.about.threads t.at) f t.takes.count))

pub loop-gone-preserved : goal.loop-gone-preserved
loop-gone-preserved g c =
    let t = c.in-Some-purge_next.ensures.answer in
    let shut = c.close.ensures.answer.makes.about in
    let same = shut ∙ t.takes.makes.about in
    record {
      stands = subst (λ (a : About). StandsAt a c.purge_next.new.quota) (sym same) t.stands;
      about = same ∙ c.loop-gone.invariant.about;
    }
