use Rattle.std.proofs.Common.{List, sym, subst}
use Rattle.std.specs.Prelude.{None}
use Rattle.hx_pool.specs.declared.entries.Note.{Note}
use Rattle.hx_pool.specs.Held.{Has}
use Rattle.hx_pool.proofs.Calls.{has_taken}
use Rattle.hx_places.specs.Seats.{history_of}
use Rattle.hx_pool_tests.proofs.SeatCalls.{own_about}
use Rattle.hx_pool_tests.proofs.RowCalls.{owner_about}
use Rattle.hx_pool_tests.proofs.tests.rows.Owner.take.Goals as goal

pub returns-in-Some-clause-owner : goal.returns-in-Some-clause-owner
returns-in-Some-clause-owner c = owner_about c.args.self.now.seat c.take_own.new.seat c.take_own.new.self c.take_own.ensures.rest c.take_own.ensures.row
    (own_about _ (history_of c.args.self.now.seat None) (history_of c.take_own.new.seat None) _ _ c.take_own.result (c.take_own.ensures.answer None)) c.requires.owner.server

pub returns-in-Some-clause-has : goal.returns-in-Some-clause-has
returns-in-Some-clause-has c =
    let t = (c.in-Some.ensures.answer None).takes in
    let f = c.in-Some.card.face in
    subst (λ (l : List Note). Has l (record { 0 = 1 }) f.id.0 f.uses) (sym t.makes.mine)
    (has_taken c.args.self.now.seat.view.mine t.looks c.args.self.now.seat.view.thread (record { 0 = 1 }) c.args.first (c.in-Some.ensures.answer None).place f t.count)

pub returns-in-Some-clause-about : goal.returns-in-Some-clause-about
returns-in-Some-clause-about c = own_about _ (history_of c.args.self.now.seat None) (history_of c.take_own.new.seat None) _ _ c.take_own.result (c.take_own.ensures.answer None)

pub returns-in-None-clause-owner : goal.returns-in-None-clause-owner
returns-in-None-clause-owner c = owner_about c.args.self.now.seat c.take_own.new.seat c.take_own.new.self c.take_own.ensures.rest c.take_own.ensures.row
    (own_about _ (history_of c.args.self.now.seat None) (history_of c.take_own.new.seat None) _ _ c.take_own.result (c.take_own.ensures.answer None)) c.requires.owner.server

pub returns-in-None-clause-about : goal.returns-in-None-clause-about
returns-in-None-clause-about c = own_about _ (history_of c.args.self.now.seat None) (history_of c.take_own.new.seat None) _ _ c.take_own.result (c.take_own.ensures.answer None)
