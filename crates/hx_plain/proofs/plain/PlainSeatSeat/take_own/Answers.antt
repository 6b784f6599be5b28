use Rattle.std.proofs.Common.{refl, ap, ◌∙◌, ◌∷◌, [], arith}
use Rattle.std.specs.Vec.{vec_capacity}
use Rattle.hx_pool.specs.Totals.{totals_after}
use Rattle.hx_plain.specs.PlainSeat.{about_alone, first_thread}
use Rattle.hx_plain.specs.Row.{rests_of}
use Rattle.hx_plain.proofs.Takes.{took_own, took_none}
use Rattle.hx_plain.proofs.Keeping.{grows_by, grows_none, entry_as}
use Rattle.hx_plain.proofs.plain.PlainSeatSeat.take_own.Goals as goal

pub returns-in_default-clause-answer : goal.returns-in_default-clause-answer
returns-in_default-clause-answer g c =
    let i = c.self.inside in
    let h = c.in_default.ensures.took in
    rw (← c.self.view_is, h.3) (took_none _ i.passed i.ledger.notes _ _ c.self.invariant.stands c.args.first h.0 h.1)

pub invariant_of-self-2 : goal.invariant_of-self-2
invariant_of-self-2 g c =
    let i = c.self.inside in
    let shows = g.V.Faced.shows in
    let s = c.self.invariant in
    let h = c.in-Some.ensures in
    let rest = c.in-Some.rest in
    let e = entry_as c.take_entry-entry.result first_thread c.args.n c.args.first rest.place rest.place c.face.result (shows rest.v).face c.take_entry-entry.ensures refl c.face.ensures in
    let t = took_own (about_alone i.server i.rules i.start i.ledger.board) i.passed i.totals _ i.ledger c.take_best.new.ledger i.next i.draining i.round (rests_of shows i.resting.items) (rests_of shows c.take_best.new.resting.items) s
    c.args.n c.requires c.args.first rest.place (shows rest.v) h.took (vec_capacity c.take_best.new.resting) (rw h.room s.roomy) in
    rw (h.took.book, c.with_counted-self-inside.ensures ∙ ap (totals_after i.totals) e) t.0

pub returns-clause-answer : goal.returns-clause-answer
returns-clause-answer g c =
    let i = c.self.inside in
    let shows = g.V.Faced.shows in
    let s = c.self.invariant in
    let h = c.in-Some.ensures in
    let rest = c.in-Some.rest in
    let t = took_own (about_alone i.server i.rules i.start i.ledger.board) i.passed i.totals _ i.ledger c.take_best.new.ledger i.next i.draining i.round (rests_of shows i.resting.items) (rests_of shows c.take_best.new.resting.items) s
    c.args.n c.requires c.args.first rest.place (shows rest.v) h.took (vec_capacity c.take_best.new.resting) (rw h.room s.roomy) in
    rw (← c.self.view_is, h.took.book) t.1

pub returns-clause-grows : goal.returns-clause-grows
returns-clause-grows g c =
    let i = c.self.inside in
    let shows = g.V.Faced.shows in
    let s = c.self.invariant in
    let h = c.in-Some.ensures in
    let rest = c.in-Some.rest in
    let e = entry_as c.take_entry-entry.result first_thread c.args.n c.args.first rest.place rest.place c.face.result (shows rest.v).face c.take_entry-entry.ensures refl c.face.ensures in
    let t = took_own (about_alone i.server i.rules i.start i.ledger.board) i.passed i.totals _ i.ledger c.take_best.new.ledger i.next i.draining i.round (rests_of shows i.resting.items) (rests_of shows c.take_best.new.resting.items) s
    c.args.n c.requires c.args.first rest.place (shows rest.v) h.took (vec_capacity c.take_best.new.resting) (rw h.room s.roomy) in
    rw (← c.self.view_is, h.took.book) (grows_by _ _ _ i.ledger.notes _ _ s.stands.one (t.1.takes.makes.one) refl (c.one_mark-self-inside.ensures ∙ ap (λ x. x ∷ []) e) (omega arith))

pub returns-in_default-clause-grows : goal.returns-in_default-clause-grows
returns-in_default-clause-grows g c = rw (← c.self.view_is, c.in_default.ensures.took.3) (grows_none _ _ _ c.self.inside.ledger.notes c.self.invariant.stands.one)
