use Rattle.std.proofs.Common.{◌+◌, ◌*◌, true, false, ◌∷◌, [], Some, refl, ap, ◌∙◌}
use Rattle.hx_pool.specs.Causes.{caretaker}
use Rattle.hx_pool.specs.Totals.{totals_after}
use Rattle.hx_resting.specs.declared.values.Rows.{Rows}
use Rattle.hx_resting.specs.Rows.{Rested}
use Rattle.hx_lockboard.specs.LockDesks.{given_back}
use Rattle.hx_lockboard.proofs.Taken.{entry_as}
use Rattle.hx_lockboard.proofs.OwnTakes.{adds_none}
use Rattle.hx_lockboard.proofs.Calls.{Start, gives_after, gives_own, grows_none}
use Rattle.hx_lockboard.proofs.Sweeps.{sweep_goes, no_lead, drain_keeps, drain_none, drain_grows, took_keeps, drain_one, care_grows}
use Rattle.hx_lockboard.proofs.seat.LockSeatSeat.drain_next.Goals as goal

pub give-requires-clause-after : goal.give-requires-clause-after
give-requires-clause-after g c =
    let shows = g.V.Faced.shows in
    let i = c.self.inside in
    let rows = c.get-rows.result in
    let k : Start shows = record { b = i.terms; t = i.thread; d0 = i.desk; d1 = c.get-rows.new.self; p = i.passed; totals = i.totals; opened = i.opened; s = c.self.invariant; rows = rows; g = c.get-rows.ensures } in
    let rows' : Rows g.row.V.Denot = record rows { resting = c.sweep-taken.new.resting } in
    let d2 = c.sweep-taken.new.desk in
    let room = c.sweep-taken.ensures.room in
    let from = c.in-Some.from in
    let go = sweep_goes shows k [] tt refl (no_lead shows k from d2 (given_back d2) rows' refl refl refl refl room) caretaker false (λ u. true) from c.get-rows.new.self d2 (adds_none c.get-rows.new.self) rows' refl refl refl room c.sweep-taken.result (64 * i.terms.threads) c.sweep-taken.ensures.swept (λ u m h. absurd (h refl)) in
    gives_after shows k d2 go.ys go.wrote rows' go.after

pub give-requires-clause-own : goal.give-requires-clause-own
give-requires-clause-own g c =
    let shows = g.V.Faced.shows in
    let i = c.self.inside in
    let rows = c.get-rows.result in
    let k : Start shows = record { b = i.terms; t = i.thread; d0 = i.desk; d1 = c.get-rows.new.self; p = i.passed; totals = i.totals; opened = i.opened; s = c.self.invariant; rows = rows; g = c.get-rows.ensures } in
    let rows' : Rows g.row.V.Denot = record rows { resting = c.sweep-taken.new.resting } in
    let d2 = c.sweep-taken.new.desk in
    let room = c.sweep-taken.ensures.room in
    let from = c.in-Some.from in
    let go = sweep_goes shows k [] tt refl (no_lead shows k from d2 (given_back d2) rows' refl refl refl refl room) caretaker false (λ u. true) from c.get-rows.new.self d2 (adds_none c.get-rows.new.self) rows' refl refl refl room c.sweep-taken.result (64 * i.terms.threads) c.sweep-taken.ensures.swept (λ u m h. absurd (h refl)) in
    gives_own shows k d2 go.ys go.wrote go.all

pub invariant_of-self-in_default-taken : goal.invariant_of-self-in_default-taken
invariant_of-self-in_default-taken g c =
    let shows = g.V.Faced.shows in
    let i = c.self.inside in
    let rows = c.get-rows.result in
    let k : Start shows = record { b = i.terms; t = i.thread; d0 = i.desk; d1 = c.get-rows.new.self; p = i.passed; totals = i.totals; opened = i.opened; s = c.self.invariant; rows = rows; g = c.get-rows.ensures } in
    let rows' : Rows g.row.V.Denot = record rows { resting = c.sweep-taken.new.resting } in
    let d2 = c.sweep-taken.new.desk in
    let room = c.sweep-taken.ensures.room in
    let from = c.in-Some.from in
    let m = c.in_default-taken.ensures.swept in
    drain_keeps shows k from d2 c.give.new.self rows' c.give.ensures refl refl refl room m.0 m.1 c.in-Some.is

pub returns-in_default-taken-clause-answer : goal.returns-in_default-taken-clause-answer
returns-in_default-taken-clause-answer g c =
    let shows = g.V.Faced.shows in
    let i = c.self.inside in
    let rows = c.get-rows.result in
    let k : Start shows = record { b = i.terms; t = i.thread; d0 = i.desk; d1 = c.get-rows.new.self; p = i.passed; totals = i.totals; opened = i.opened; s = c.self.invariant; rows = rows; g = c.get-rows.ensures } in
    let rows' : Rows g.row.V.Denot = record rows { resting = c.sweep-taken.new.resting } in
    let d2 = c.sweep-taken.new.desk in
    let room = c.sweep-taken.ensures.room in
    let from = c.in-Some.from in
    let m = c.in_default-taken.ensures.swept in
    rw (← c.self.view_is) (drain_none shows k from d2 c.give.new.self rows' c.give.ensures refl refl refl room m.0 m.1 c.in-Some.is)

pub returns-in_default-taken-clause-grows : goal.returns-in_default-taken-clause-grows
returns-in_default-taken-clause-grows g c =
    let shows = g.V.Faced.shows in
    let i = c.self.inside in
    let rows = c.get-rows.result in
    let k : Start shows = record { b = i.terms; t = i.thread; d0 = i.desk; d1 = c.get-rows.new.self; p = i.passed; totals = i.totals; opened = i.opened; s = c.self.invariant; rows = rows; g = c.get-rows.ensures } in
    let rows' : Rows g.row.V.Denot = record rows { resting = c.sweep-taken.new.resting } in
    let d2 = c.sweep-taken.new.desk in
    let room = c.sweep-taken.ensures.room in
    let from = c.in-Some.from in
    let m = c.in_default-taken.ensures.swept in
    rw (← c.self.view_is) (drain_grows shows k from d2 c.give.new.self rows' c.give.ensures refl refl refl room m.0 m.1 c.in-Some.is)

pub invariant_of-self-2 : goal.invariant_of-self-2
invariant_of-self-2 g c =
    let shows = g.V.Faced.shows in
    let i = c.self.inside in
    let rows = c.get-rows.result in
    let k : Start shows = record { b = i.terms; t = i.thread; d0 = i.desk; d1 = c.get-rows.new.self; p = i.passed; totals = i.totals; opened = i.opened; s = c.self.invariant; rows = rows; g = c.get-rows.ensures } in
    let rows' : Rows g.row.V.Denot = record rows { resting = c.sweep-taken.new.resting } in
    let d2 = c.sweep-taken.new.desk in
    let room = c.sweep-taken.ensures.room in
    let from = c.in-Some.from in
    let m = c.in-Some-taken.ensures.swept in
    let rest = c.in-Some-taken.rest in
    let x : Rested = record { place = rest.place; shown = shows rest.v } in
    let e = entry_as c.take_entry-entry.result i.thread caretaker false rest.place c.face.result (shows rest.v).face c.take_entry-entry.ensures c.face.ensures in
    rw (c.with_counted-self-inside.ensures ∙ ap (totals_after i.totals) e) (took_keeps shows k from d2 c.give.new.self rows' c.give.ensures refl refl refl room c.in-Some-taken.passed m.0 x m.1 c.in-Some.is)

pub returns-clause-answer : goal.returns-clause-answer
returns-clause-answer g c =
    let shows = g.V.Faced.shows in
    let i = c.self.inside in
    let rows = c.get-rows.result in
    let k : Start shows = record { b = i.terms; t = i.thread; d0 = i.desk; d1 = c.get-rows.new.self; p = i.passed; totals = i.totals; opened = i.opened; s = c.self.invariant; rows = rows; g = c.get-rows.ensures } in
    let rows' : Rows g.row.V.Denot = record rows { resting = c.sweep-taken.new.resting } in
    let d2 = c.sweep-taken.new.desk in
    let room = c.sweep-taken.ensures.room in
    let from = c.in-Some.from in
    let m = c.in-Some-taken.ensures.swept in
    let rest = c.in-Some-taken.rest in
    let x : Rested = record { place = rest.place; shown = shows rest.v } in
    let e = entry_as c.take_entry-entry.result i.thread caretaker false rest.place c.face.result (shows rest.v).face c.take_entry-entry.ensures c.face.ensures in
    rw (← c.self.view_is) (drain_one shows k from d2 c.give.new.self rows' c.give.ensures refl refl refl room c.in-Some-taken.passed m.0 x m.1 c.in-Some.is)

pub returns-clause-grows : goal.returns-clause-grows
returns-clause-grows g c =
    let shows = g.V.Faced.shows in
    let i = c.self.inside in
    let rows = c.get-rows.result in
    let k : Start shows = record { b = i.terms; t = i.thread; d0 = i.desk; d1 = c.get-rows.new.self; p = i.passed; totals = i.totals; opened = i.opened; s = c.self.invariant; rows = rows; g = c.get-rows.ensures } in
    let rows' : Rows g.row.V.Denot = record rows { resting = c.sweep-taken.new.resting } in
    let d2 = c.sweep-taken.new.desk in
    let room = c.sweep-taken.ensures.room in
    let from = c.in-Some.from in
    let m = c.in-Some-taken.ensures.swept in
    let rest = c.in-Some-taken.rest in
    let x : Rested = record { place = rest.place; shown = shows rest.v } in
    let e = entry_as c.take_entry-entry.result i.thread caretaker false rest.place c.face.result (shows rest.v).face c.take_entry-entry.ensures c.face.ensures in
    rw (← c.self.view_is, c.one_mark-self-inside.ensures ∙ ap (λ z. z ∷ []) e) (care_grows shows k from d2 c.give.new.self rows' c.give.ensures refl refl refl room c.in-Some-taken.passed m.0 x m.1 (Some (from + c.in-Some-taken.passed + 1)))

pub returns-in_default-clause-grows : goal.returns-in_default-clause-grows
returns-in_default-clause-grows g c =
    let i = c.self.inside in
    rw (← c.self.view_is) (grows_none i.terms i.thread i.desk i.passed i.totals i.opened c.self.invariant)
