use Rattle.std.proofs.Common.{false, ◌∙◌, ap, refl, [], ◌∷◌, ◌+◌}
use Rattle.std.specs.Vec.{vec_capacity}
use Rattle.hx_pool.specs.Causes.{caretaker}
use Rattle.hx_pool.specs.Totals.{totals_after}
use Rattle.hx_plain.specs.PlainSeat.{about_alone, first_thread}
use Rattle.hx_plain.specs.Row.{rests_of}
use Rattle.hx_plain.proofs.Keeping.{one_board, entry_as, grows_none}
use Rattle.hx_plain.proofs.Sweeps.{drain_never, drain_done, drained}
use Rattle.hx_plain.proofs.plain.PlainSeatSeat.drain_next.Goals as goal

pub returns-in_default-clause-answer : goal.returns-in_default-clause-answer
returns-in_default-clause-answer g c =
    let i = c.self.inside in
    let s = rw c.in_default.is at c.self.invariant in
    rw (← c.self.view_is, c.in_default.is) (drain_never _ i.ledger.notes _ _ _ _ s)

pub invariant_of-self-in_default-sweep : goal.invariant_of-self-in_default-sweep
invariant_of-self-in_default-sweep g c =
    let i = c.self.inside in
    let s = rw c.in-Some.is at c.self.invariant in
    let h = c.in_default-sweep.ensures in
    let t = drain_done (about_alone i.server i.rules i.start i.ledger.board) refl i.ledger i.next i.draining i.round (rests_of g.V.Faced.shows i.resting.items) s.stands c.in-Some.from i.totals _ s c.sweep.new.ledger h.swept.0 in
    rw (one_board i.ledger c.sweep.new.ledger _ h.swept.0.book, h.swept.1, h.room) t.0

pub returns-in_default-sweep-clause-answer : goal.returns-in_default-sweep-clause-answer
returns-in_default-sweep-clause-answer g c =
    let i = c.self.inside in
    let s = rw c.in-Some.is at c.self.invariant in
    let h = c.in_default-sweep.ensures in
    let t = drain_done (about_alone i.server i.rules i.start i.ledger.board) refl i.ledger i.next i.draining i.round (rests_of g.V.Faced.shows i.resting.items) s.stands c.in-Some.from i.totals _ s c.sweep.new.ledger h.swept.0 in
    rw (← c.self.view_is, one_board i.ledger c.sweep.new.ledger _ h.swept.0.book, c.in-Some.is) t.1

pub returns-in_default-sweep-clause-grows : goal.returns-in_default-sweep-clause-grows
returns-in_default-sweep-clause-grows g c =
    let i = c.self.inside in
    let s = rw c.in-Some.is at c.self.invariant in
    let h = c.in_default-sweep.ensures in
    let t = drain_done (about_alone i.server i.rules i.start i.ledger.board) refl i.ledger i.next i.draining i.round (rests_of g.V.Faced.shows i.resting.items) s.stands c.in-Some.from i.totals _ s c.sweep.new.ledger h.swept.0 in
    rw (← c.self.view_is, one_board i.ledger c.sweep.new.ledger _ h.swept.0.book, c.in-Some.is) t.2

pub invariant_of-self-2 : goal.invariant_of-self-2
invariant_of-self-2 g c =
    let i = c.self.inside in
    let shows = g.V.Faced.shows in
    let s = rw c.in-Some.is at c.self.invariant in
    let h = c.in-Some-sweep.ensures in
    let rest = c.in-Some-sweep.rest in
    let from = c.in-Some.from in
    let passed = c.in-Some-sweep.passed in
    let e = entry_as c.take_entry-entry.result first_thread caretaker false rest.place (from + passed) c.face.result (shows rest.v).face (rw c.caretaker_of.ensures at c.take_entry-entry.ensures) h.swept.0 c.face.ensures in
    let t = drained (about_alone i.server i.rules i.start i.ledger.board) refl i.ledger i.next i.draining i.round (rests_of shows i.resting.items) s.stands (rests_of shows c.sweep.new.resting.items) from passed (shows rest.v) c.sweep.new.ledger h.swept.1 i.totals _ s (vec_capacity c.sweep.new.resting) (rw h.room s.roomy) in
    rw (one_board i.ledger c.sweep.new.ledger _ h.swept.1.book, c.with_counted-self-inside.ensures ∙ ap (totals_after i.totals) e) t.0

pub returns-clause-answer : goal.returns-clause-answer
returns-clause-answer g c =
    let i = c.self.inside in
    let shows = g.V.Faced.shows in
    let s = rw c.in-Some.is at c.self.invariant in
    let h = c.in-Some-sweep.ensures in
    let t = drained (about_alone i.server i.rules i.start i.ledger.board) refl i.ledger i.next i.draining i.round (rests_of shows i.resting.items) s.stands (rests_of shows c.sweep.new.resting.items) c.in-Some.from c.in-Some-sweep.passed (shows c.in-Some-sweep.rest.v) c.sweep.new.ledger h.swept.1 i.totals _ s (vec_capacity c.sweep.new.resting) (rw h.room s.roomy) in
    rw (← c.self.view_is, one_board i.ledger c.sweep.new.ledger _ h.swept.1.book, c.in-Some.is) t.1

pub returns-clause-grows : goal.returns-clause-grows
returns-clause-grows g c =
    let i = c.self.inside in
    let shows = g.V.Faced.shows in
    let s = rw c.in-Some.is at c.self.invariant in
    let h = c.in-Some-sweep.ensures in
    let rest = c.in-Some-sweep.rest in
    let from = c.in-Some.from in
    let passed = c.in-Some-sweep.passed in
    let e = entry_as c.take_entry-entry.result first_thread caretaker false rest.place (from + passed) c.face.result (shows rest.v).face (rw c.caretaker_of.ensures at c.take_entry-entry.ensures) h.swept.0 c.face.ensures in
    let t = drained (about_alone i.server i.rules i.start i.ledger.board) refl i.ledger i.next i.draining i.round (rests_of shows i.resting.items) s.stands (rests_of shows c.sweep.new.resting.items) from passed (shows rest.v) c.sweep.new.ledger h.swept.1 i.totals _ s (vec_capacity c.sweep.new.resting) (rw h.room s.roomy) in
    rw (← c.self.view_is, one_board i.ledger c.sweep.new.ledger _ h.swept.1.book, c.in-Some.is, c.one_mark-self-inside.ensures ∙ ap (λ x. x ∷ []) e) t.2

pub returns-in_default-clause-grows : goal.returns-in_default-clause-grows
returns-in_default-clause-grows g c = rw (← c.self.view_is) (grows_none _ _ _ c.self.inside.ledger.notes c.self.invariant.stands.one)
