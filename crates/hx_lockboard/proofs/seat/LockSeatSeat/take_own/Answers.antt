use Rattle.std.proofs.Common.{List, ◌∷◌, [], length, refl, ap, ◌∙◌, arith}
use Rattle.hx_pool.specs.declared.entries.Note.{Note}
use Rattle.hx_pool.specs.Taking.{taking}
use Rattle.hx_pool.specs.Totals.{totals_after}
use Rattle.hx_lockboard.proofs.Taken.{entry_as}
use Rattle.hx_resting.specs.declared.values.Rows.{Rows}
use Rattle.hx_resting.specs.Rows.{Rested, rests_of}
use Rattle.hx_lockboard.proofs.Calls.{Start, gives_after, gives_own, keeps_on, grows_of}
use Rattle.hx_lockboard.proofs.OwnTakes.{own_goes, own_none, own_none_grows, own_after, own_takes}
use Rattle.hx_lockboard.proofs.seat.LockSeatSeat.take_own.Goals as goal

pub give-requires-clause-after : goal.give-requires-clause-after
give-requires-clause-after g c =
    let shows = g.V.Faced.shows in
    let i = c.self.inside in
    let rows = c.get-rows.result in
    let k : Start shows = record { b = i.terms; t = i.thread; d0 = i.desk; d1 = c.get-rows.new.self; p = i.passed; totals = i.totals; opened = i.opened; s = c.self.invariant; rows = rows; g = c.get-rows.ensures } in
    let rows' : Rows g.row.V.Denot = record rows { resting = c.take_best-taken.new.resting } in
    let go = own_goes shows k c.args.n c.args.first c.take_best-taken.new.desk rows' refl refl refl c.take_best-taken.ensures.room c.take_best-taken.result c.take_best-taken.ensures.took in
    gives_after shows k c.take_best-taken.new.desk go.ys go.wrote rows' go.after

pub give-requires-clause-own : goal.give-requires-clause-own
give-requires-clause-own g c =
    let shows = g.V.Faced.shows in
    let i = c.self.inside in
    let rows = c.get-rows.result in
    let k : Start shows = record { b = i.terms; t = i.thread; d0 = i.desk; d1 = c.get-rows.new.self; p = i.passed; totals = i.totals; opened = i.opened; s = c.self.invariant; rows = rows; g = c.get-rows.ensures } in
    let rows' : Rows g.row.V.Denot = record rows { resting = c.take_best-taken.new.resting } in
    let go = own_goes shows k c.args.n c.args.first c.take_best-taken.new.desk rows' refl refl refl c.take_best-taken.ensures.room c.take_best-taken.result c.take_best-taken.ensures.took in
    gives_own shows k c.take_best-taken.new.desk go.ys go.wrote go.all

pub returns-in_default-clause-answer : goal.returns-in_default-clause-answer
returns-in_default-clause-answer g c =
    let shows = g.V.Faced.shows in
    let i = c.self.inside in
    let rows = c.get-rows.result in
    let k : Start shows = record { b = i.terms; t = i.thread; d0 = i.desk; d1 = c.get-rows.new.self; p = i.passed; totals = i.totals; opened = i.opened; s = c.self.invariant; rows = rows; g = c.get-rows.ensures } in
    let rows' : Rows g.row.V.Denot = record rows { resting = c.take_best-taken.new.resting } in
    let m = c.in_default.ensures.took in
    rw (← c.self.view_is) (own_none shows k c.args.n c.args.first c.take_best-taken.new.desk rows' refl refl refl c.take_best-taken.ensures.room c.give.new.self m.0 m.1 m.2 m.3 c.give.ensures)

pub invariant_of-self-2 : goal.invariant_of-self-2
invariant_of-self-2 g c =
    let shows = g.V.Faced.shows in
    let i = c.self.inside in
    let rows = c.get-rows.result in
    let k : Start shows = record { b = i.terms; t = i.thread; d0 = i.desk; d1 = c.get-rows.new.self; p = i.passed; totals = i.totals; opened = i.opened; s = c.self.invariant; rows = rows; g = c.get-rows.ensures } in
    let rows' : Rows g.row.V.Denot = record rows { resting = c.take_best-taken.new.resting } in
    let rest = c.in-Some.rest in
    let x : Rested = record { place = rest.place; shown = shows rest.v } in
    let d2 = c.take_best-taken.new.desk in
    let tb = c.in-Some.ensures.took in
    let e = entry_as c.take_entry-entry.result i.thread c.args.n c.args.first rest.place c.face.result (shows rest.v).face c.take_entry-entry.ensures c.face.ensures in
    let ys : List Note = taking i.thread c.args.n c.args.first rest.place (shows rest.v).face (length (rests_of shows rows.resting.items)) in
    let after = own_after shows k c.args.n c.args.first d2 rows' refl refl refl c.take_best-taken.ensures.room x tb in
    keeps_on shows k d2 ys tb.desk c.give.new.self c.give.ensures (refl, (refl, (refl, tt))) rows' after c.with_counted-self-inside.result (tt, (tt, (tt, tt))) (c.with_counted-self-inside.ensures ∙ ap (totals_after i.totals) e) refl

pub returns-clause-answer : goal.returns-clause-answer
returns-clause-answer g c =
    let shows = g.V.Faced.shows in
    let i = c.self.inside in
    let rows = c.get-rows.result in
    let k : Start shows = record { b = i.terms; t = i.thread; d0 = i.desk; d1 = c.get-rows.new.self; p = i.passed; totals = i.totals; opened = i.opened; s = c.self.invariant; rows = rows; g = c.get-rows.ensures } in
    let rows' : Rows g.row.V.Denot = record rows { resting = c.take_best-taken.new.resting } in
    let rest = c.in-Some.rest in
    let x : Rested = record { place = rest.place; shown = shows rest.v } in
    let d2 = c.take_best-taken.new.desk in
    let tb = c.in-Some.ensures.took in
    let e = entry_as c.take_entry-entry.result i.thread c.args.n c.args.first rest.place c.face.result (shows rest.v).face c.take_entry-entry.ensures c.face.ensures in
    let ys : List Note = taking i.thread c.args.n c.args.first rest.place (shows rest.v).face (length (rests_of shows rows.resting.items)) in
    let after = own_after shows k c.args.n c.args.first d2 rows' refl refl refl c.take_best-taken.ensures.room x tb in
    rw (← c.self.view_is) (own_takes shows k c.args.n c.args.first d2 rows' refl refl refl c.take_best-taken.ensures.room x tb c.give.new.self c.give.ensures)

pub returns-clause-grows : goal.returns-clause-grows
returns-clause-grows g c =
    let shows = g.V.Faced.shows in
    let i = c.self.inside in
    let rows = c.get-rows.result in
    let k : Start shows = record { b = i.terms; t = i.thread; d0 = i.desk; d1 = c.get-rows.new.self; p = i.passed; totals = i.totals; opened = i.opened; s = c.self.invariant; rows = rows; g = c.get-rows.ensures } in
    let rows' : Rows g.row.V.Denot = record rows { resting = c.take_best-taken.new.resting } in
    let rest = c.in-Some.rest in
    let x : Rested = record { place = rest.place; shown = shows rest.v } in
    let d2 = c.take_best-taken.new.desk in
    let tb = c.in-Some.ensures.took in
    let e = entry_as c.take_entry-entry.result i.thread c.args.n c.args.first rest.place c.face.result (shows rest.v).face c.take_entry-entry.ensures c.face.ensures in
    let ys : List Note = taking i.thread c.args.n c.args.first rest.place (shows rest.v).face (length (rests_of shows rows.resting.items)) in
    let after = own_after shows k c.args.n c.args.first d2 rows' refl refl refl c.take_best-taken.ensures.room x tb in
    rw (← c.self.view_is) (grows_of shows k d2 ys tb.desk c.give.new.self c.give.ensures (refl, (refl, (refl, tt))) rows' after refl i.passed _ (c.one_mark-self-inside.ensures ∙ ap (λ z. z ∷ []) e) (omega arith))

pub returns-in_default-clause-grows : goal.returns-in_default-clause-grows
returns-in_default-clause-grows g c =
    let shows = g.V.Faced.shows in
    let i = c.self.inside in
    let rows = c.get-rows.result in
    let k : Start shows = record { b = i.terms; t = i.thread; d0 = i.desk; d1 = c.get-rows.new.self; p = i.passed; totals = i.totals; opened = i.opened; s = c.self.invariant; rows = rows; g = c.get-rows.ensures } in
    let rows' : Rows g.row.V.Denot = record rows { resting = c.take_best-taken.new.resting } in
    let m = c.in_default.ensures.took in
    rw (← c.self.view_is) (own_none_grows shows k c.args.n c.args.first c.take_best-taken.new.desk rows' refl refl refl c.take_best-taken.ensures.room c.give.new.self m.2 m.3 c.give.ensures)
