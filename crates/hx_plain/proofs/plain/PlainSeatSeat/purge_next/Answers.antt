use Rattle.std.proofs.Common.{◌-◌, false, ◌∙◌, ap, refl, [], ◌∷◌, ◌+◌, inl, arith}
use Rattle.std.specs.Vec.{vec_capacity}
use Rattle.hx_pool.specs.declared.budget.Quota.{Quota}
use Rattle.hx_pool.specs.Causes.{caretaker}
use Rattle.hx_pool.specs.Totals.{totals_after}
use Rattle.hx_pool.proofs.Purges.{purge_goes, purge_stays}
use Rattle.hx_plain.specs.PlainSeat.{about_alone, first_thread}
use Rattle.hx_plain.specs.Row.{rests_of}
use Rattle.hx_plain.specs.Plain.{alone}
use Rattle.hx_plain.proofs.Keeping.{calls_none, grows_none, one_board, entry_as}
use Rattle.hx_plain.proofs.Sweeps.{purge_done, purged}
use Rattle.hx_plain.proofs.plain.PlainSeatSeat.purge_next.Goals as goal

pub returns-then-quota-eq0-clause-quota : goal.returns-then-quota-eq0-clause-quota
returns-then-quota-eq0-clause-quota g c =
    let i = c.self.inside in
    let a = about_alone i.server i.rules i.start i.ledger.board in
    let old = alone a i.passed i.ledger.notes in
    rw (← c.self.view_is) (purge_stays old old c.args.quota.now c.args.quota.now (inl (c.if-quota-eq0.true, refl, calls_none a i.passed i.ledger.notes c.self.invariant.stands.one)))

pub invariant_of-self-in_default : goal.invariant_of-self-in_default
invariant_of-self-in_default g c =
    let i = c.self.inside in
    let q = c.args.quota.now in
    let h = c.in_default.ensures in
    let low = rw (← c.self.view_is) at c.requires.inside in
    let t = purge_done (about_alone i.server i.rules i.start i.ledger.board) refl i.ledger i.next i.draining i.round (rests_of g.V.Faced.shows i.resting.items) c.self.invariant.stands i.passed i.totals _ c.self.invariant c.sweep.new.ledger q (record q { seen = 64 }) c.if-quota-eq0.false low refl refl h.swept.0 in
    rw (one_board i.ledger c.sweep.new.ledger _ h.swept.0.book, h.swept.1, h.room) t.0

pub returns-in_default-clause-answer : goal.returns-in_default-clause-answer
returns-in_default-clause-answer g c =
    let i = c.self.inside in
    let q = c.args.quota.now in
    let h = c.in_default.ensures in
    let low = rw (← c.self.view_is) at c.requires.inside in
    let t = purge_done (about_alone i.server i.rules i.start i.ledger.board) refl i.ledger i.next i.draining i.round (rests_of g.V.Faced.shows i.resting.items) c.self.invariant.stands i.passed i.totals _ c.self.invariant c.sweep.new.ledger q (record q { seen = 64 }) c.if-quota-eq0.false low refl refl h.swept.0 in
    rw (← c.self.view_is, one_board i.ledger c.sweep.new.ledger _ h.swept.0.book) t.1

pub returns-in_default-clause-quota : goal.returns-in_default-clause-quota
returns-in_default-clause-quota g c =
    let i = c.self.inside in
    let q = c.args.quota.now in
    let a = about_alone i.server i.rules i.start i.ledger.board in
    let h = c.in_default.ensures in
    let low = rw (← c.self.view_is) at c.requires.inside in
    let t = purge_done a refl i.ledger i.next i.draining i.round (rests_of g.V.Faced.shows i.resting.items) c.self.invariant.stands i.passed i.totals _ c.self.invariant c.sweep.new.ledger q (record q { seen = 64 }) c.if-quota-eq0.false low refl refl h.swept.0 in
    rw (← c.self.view_is) (purge_stays (alone a i.passed i.ledger.notes) (alone a i.passed c.sweep.new.ledger.notes) q (record q { seen = 64 }) t.1)

pub returns-in_default-clause-grows : goal.returns-in_default-clause-grows
returns-in_default-clause-grows g c =
    let i = c.self.inside in
    let q = c.args.quota.now in
    let h = c.in_default.ensures in
    let low = rw (← c.self.view_is) at c.requires.inside in
    let t = purge_done (about_alone i.server i.rules i.start i.ledger.board) refl i.ledger i.next i.draining i.round (rests_of g.V.Faced.shows i.resting.items) c.self.invariant.stands i.passed i.totals _ c.self.invariant c.sweep.new.ledger q (record q { seen = 64 }) c.if-quota-eq0.false low refl refl h.swept.0 in
    rw (← c.self.view_is, one_board i.ledger c.sweep.new.ledger _ h.swept.0.book) t.2

pub invariant_of-self-2 : goal.invariant_of-self-2
invariant_of-self-2 g c =
    let i = c.self.inside in
    let shows = g.V.Faced.shows in
    let q = c.args.quota.now in
    let s = c.self.invariant in
    let h = c.in-Some.ensures in
    let rest = c.in-Some.rest in
    let to = q.seen + c.in-Some.passed in
    let e = entry_as c.take_entry-entry.result first_thread caretaker false rest.place to c.face.result (shows rest.v).face (rw c.caretaker_of.ensures at c.take_entry-entry.ensures) h.swept.0 c.face.ensures in
    let t = purged (about_alone i.server i.rules i.start i.ledger.board) refl i.ledger i.next i.draining i.round (rests_of shows i.resting.items) s.stands (rests_of shows c.sweep.new.resting.items) q.seen c.in-Some.passed (shows rest.v) c.sweep.new.ledger h.swept.1 i.passed i.totals _ s (vec_capacity c.sweep.new.resting) (rw h.room s.roomy)
    q (record { left = q.left - 1; row = 0; place = to + 1; seen = to + 1 }) refl (omega (arith, c.if-quota-eq0.false)) refl refl refl in
    rw (one_board i.ledger c.sweep.new.ledger _ h.swept.1.book, c.with_counted-self-inside.ensures ∙ ap (totals_after i.totals) e) t.0

pub returns-clause-answer : goal.returns-clause-answer
returns-clause-answer g c =
    let i = c.self.inside in
    let shows = g.V.Faced.shows in
    let q = c.args.quota.now in
    let s = c.self.invariant in
    let h = c.in-Some.ensures in
    let rest = c.in-Some.rest in
    let to = q.seen + c.in-Some.passed in
    let t = purged (about_alone i.server i.rules i.start i.ledger.board) refl i.ledger i.next i.draining i.round (rests_of shows i.resting.items) s.stands (rests_of shows c.sweep.new.resting.items) q.seen c.in-Some.passed (shows rest.v) c.sweep.new.ledger h.swept.1 i.passed i.totals _ s (vec_capacity c.sweep.new.resting) (rw h.room s.roomy)
    q (record { left = q.left - 1; row = 0; place = to + 1; seen = to + 1 }) refl (omega (arith, c.if-quota-eq0.false)) refl refl refl in
    rw (← c.self.view_is, one_board i.ledger c.sweep.new.ledger _ h.swept.1.book) t.1

pub returns-clause-quota : goal.returns-clause-quota
returns-clause-quota g c =
    let i = c.self.inside in
    let shows = g.V.Faced.shows in
    let q = c.args.quota.now in
    let s = c.self.invariant in
    let a = about_alone i.server i.rules i.start i.ledger.board in
    let h = c.in-Some.ensures in
    let rest = c.in-Some.rest in
    let to = q.seen + c.in-Some.passed in
    let r : Quota = record { left = q.left - 1; row = 0; place = to + 1; seen = to + 1 } in
    let t = purged a refl i.ledger i.next i.draining i.round (rests_of shows i.resting.items) s.stands (rests_of shows c.sweep.new.resting.items) q.seen c.in-Some.passed (shows rest.v) c.sweep.new.ledger h.swept.1 i.passed i.totals _ s (vec_capacity c.sweep.new.resting) (rw h.room s.roomy)
    q r refl (omega (arith, c.if-quota-eq0.false)) refl refl refl in
    rw (← c.self.view_is) (purge_goes (alone a i.passed i.ledger.notes) (alone a i.passed c.sweep.new.ledger.notes) q r (shows rest.v) t.1)

pub returns-clause-grows : goal.returns-clause-grows
returns-clause-grows g c =
    let i = c.self.inside in
    let shows = g.V.Faced.shows in
    let q = c.args.quota.now in
    let s = c.self.invariant in
    let h = c.in-Some.ensures in
    let rest = c.in-Some.rest in
    let to = q.seen + c.in-Some.passed in
    let e = entry_as c.take_entry-entry.result first_thread caretaker false rest.place to c.face.result (shows rest.v).face (rw c.caretaker_of.ensures at c.take_entry-entry.ensures) h.swept.0 c.face.ensures in
    let t = purged (about_alone i.server i.rules i.start i.ledger.board) refl i.ledger i.next i.draining i.round (rests_of shows i.resting.items) s.stands (rests_of shows c.sweep.new.resting.items) q.seen c.in-Some.passed (shows rest.v) c.sweep.new.ledger h.swept.1 i.passed i.totals _ s (vec_capacity c.sweep.new.resting) (rw h.room s.roomy)
    q (record { left = q.left - 1; row = 0; place = to + 1; seen = to + 1 }) refl (omega (arith, c.if-quota-eq0.false)) refl refl refl in
    rw (← c.self.view_is, one_board i.ledger c.sweep.new.ledger _ h.swept.1.book, c.one_mark-self-inside.ensures ∙ ap (λ x. x ∷ []) e) t.2

pub returns-then-quota-eq0-clause-grows : goal.returns-then-quota-eq0-clause-grows
returns-then-quota-eq0-clause-grows g c = rw (← c.self.view_is) (grows_none _ _ _ c.self.inside.ledger.notes c.self.invariant.stands.one)
