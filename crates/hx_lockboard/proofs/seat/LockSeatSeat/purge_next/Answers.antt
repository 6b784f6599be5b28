use Rattle.std.proofs.Common.{◌*◌, true, false, ◌∷◌, [], refl, ap, ◌∙◌, sym, arith}
use Rattle.hx_pool.specs.Causes.{nth_place, caretaker}
use Rattle.hx_pool.specs.Totals.{totals_after}
use Rattle.std.proofs.Common.{inl}
use Rattle.hx_pool.specs.declared.budget.Quota.{Quota}
use Rattle.hx_pool.proofs.Purges.{purge_goes, purge_stays}
use Rattle.hx_lockboard.specs.Seats.{history}
use Rattle.hx_lockboard.proofs.Calls.{calls_none, grows_none}
use Rattle.hx_resting.specs.declared.values.Rows.{Rows}
use Rattle.hx_resting.specs.Rows.{Rested}
use Rattle.hx_lockboard.specs.LockDesks.{given_back}
use Rattle.hx_lockboard.proofs.Taken.{entry_as}
use Rattle.hx_lockboard.proofs.OwnTakes.{adds_none}
use Rattle.hx_lockboard.proofs.Calls.{Start, gives_after, gives_own}
use Rattle.hx_lockboard.proofs.Sweeps.{sweep_goes, no_lead, purge_keeps, purge_none, purge_grows, care_keeps, purge_one, care_grows}
use Rattle.hx_lockboard.proofs.seat.LockSeatSeat.purge_next.Goals as goal

pub returns-then-quota-eq0-clause-quota : goal.returns-then-quota-eq0-clause-quota
returns-then-quota-eq0-clause-quota g c =
    let i = c.self.inside in
    let h = history i.terms i.thread i.passed i.desk in
    rw (← c.self.view_is) (purge_stays h h c.args.quota.now c.args.quota.now (inl (c.if-quota-eq0.true, refl, calls_none i.terms i.thread i.desk i.passed i.totals i.opened c.self.invariant)))

pub give-requires-clause-after : goal.give-requires-clause-after
give-requires-clause-after g c =
    let shows = g.V.Faced.shows in
    let i = c.self.inside in
    let rows = c.get-rows.result in
    let k : Start shows = record { b = i.terms; t = i.thread; d0 = i.desk; d1 = c.get-rows.new.self; p = i.passed; totals = i.totals; opened = i.opened; s = c.self.invariant; rows = rows; g = c.get-rows.ensures } in
    let rows' : Rows g.row.V.Denot = record rows { resting = c.sweep-taken.new.resting } in
    let d2 = c.sweep-taken.new.desk in
    let room = c.sweep-taken.ensures.room in
    let from = c.args.quota.now.seen in
    let go = sweep_goes shows k [] tt refl (no_lead shows k from d2 (given_back d2) rows' refl refl refl refl room) caretaker false (λ u. true) from c.get-rows.new.self d2 (adds_none c.get-rows.new.self) rows' refl refl refl room c.sweep-taken.result (64 * i.terms.threads) c.sweep-taken.ensures.swept (λ u m h. absurd (h refl)) in
    gives_after shows k d2 go.ys go.wrote rows' go.after

pub give-requires-clause-own : goal.give-requires-clause-own
give-requires-clause-own g c =
    let shows = g.V.Faced.shows in
    let i = c.self.inside in
    let rows = c.get-rows.result in
    let k : Start shows = record { b = i.terms; t = i.thread; d0 = i.desk; d1 = c.get-rows.new.self; p = i.passed; totals = i.totals; opened = i.opened; s = c.self.invariant; rows = rows; g = c.get-rows.ensures } in
    let rows' : Rows g.row.V.Denot = record rows { resting = c.sweep-taken.new.resting } in
    let d2 = c.sweep-taken.new.desk in
    let room = c.sweep-taken.ensures.room in
    let from = c.args.quota.now.seen in
    let go = sweep_goes shows k [] tt refl (no_lead shows k from d2 (given_back d2) rows' refl refl refl refl room) caretaker false (λ u. true) from c.get-rows.new.self d2 (adds_none c.get-rows.new.self) rows' refl refl refl room c.sweep-taken.result (64 * i.terms.threads) c.sweep-taken.ensures.swept (λ u m h. absurd (h refl)) in
    gives_own shows k d2 go.ys go.wrote go.all

pub invariant_of-self-in_default : goal.invariant_of-self-in_default
invariant_of-self-in_default g c =
    let shows = g.V.Faced.shows in
    let i = c.self.inside in
    let rows = c.get-rows.result in
    let k : Start shows = record { b = i.terms; t = i.thread; d0 = i.desk; d1 = c.get-rows.new.self; p = i.passed; totals = i.totals; opened = i.opened; s = c.self.invariant; rows = rows; g = c.get-rows.ensures } in
    let rows' : Rows g.row.V.Denot = record rows { resting = c.sweep-taken.new.resting } in
    let d2 = c.sweep-taken.new.desk in
    let room = c.sweep-taken.ensures.room in
    let from = c.args.quota.now.seen in
    let m = c.in_default.ensures.swept in
    let q : Quota = c.args.quota.now in
    let low = rw (← c.self.view_is) at c.requires.inside in
    purge_keeps shows k from d2 c.give.new.self rows' c.give.ensures refl refl refl room m.0 m.1 low

pub returns-in_default-clause-answer : goal.returns-in_default-clause-answer
returns-in_default-clause-answer g c =
    let shows = g.V.Faced.shows in
    let i = c.self.inside in
    let rows = c.get-rows.result in
    let k : Start shows = record { b = i.terms; t = i.thread; d0 = i.desk; d1 = c.get-rows.new.self; p = i.passed; totals = i.totals; opened = i.opened; s = c.self.invariant; rows = rows; g = c.get-rows.ensures } in
    let rows' : Rows g.row.V.Denot = record rows { resting = c.sweep-taken.new.resting } in
    let d2 = c.sweep-taken.new.desk in
    let room = c.sweep-taken.ensures.room in
    let from = c.args.quota.now.seen in
    let m = c.in_default.ensures.swept in
    let q : Quota = c.args.quota.now in
    let low = rw (← c.self.view_is) at c.requires.inside in
    rw (← c.self.view_is) (purge_none shows k from d2 c.give.new.self rows' c.give.ensures refl refl refl room m.0 m.1 low q (record q { seen = 64 * i.terms.threads }) c.if-quota-eq0.false refl refl refl)

pub returns-in_default-clause-quota : goal.returns-in_default-clause-quota
returns-in_default-clause-quota g c =
    let shows = g.V.Faced.shows in
    let i = c.self.inside in
    let rows = c.get-rows.result in
    let k : Start shows = record { b = i.terms; t = i.thread; d0 = i.desk; d1 = c.get-rows.new.self; p = i.passed; totals = i.totals; opened = i.opened; s = c.self.invariant; rows = rows; g = c.get-rows.ensures } in
    let rows' : Rows g.row.V.Denot = record rows { resting = c.sweep-taken.new.resting } in
    let d2 = c.sweep-taken.new.desk in
    let room = c.sweep-taken.ensures.room in
    let from = c.args.quota.now.seen in
    let m = c.in_default.ensures.swept in
    let q : Quota = c.args.quota.now in
    let low = rw (← c.self.view_is) at c.requires.inside in
    rw (← c.self.view_is) (purge_stays (history i.terms i.thread i.passed i.desk) (history i.terms i.thread i.passed c.give.new.self) q (record q { seen = 64 * i.terms.threads }) (purge_none shows k from d2 c.give.new.self rows' c.give.ensures refl refl refl room m.0 m.1 low q (record q { seen = 64 * i.terms.threads }) c.if-quota-eq0.false refl refl refl))

pub returns-in_default-clause-grows : goal.returns-in_default-clause-grows
returns-in_default-clause-grows g c =
    let shows = g.V.Faced.shows in
    let i = c.self.inside in
    let rows = c.get-rows.result in
    let k : Start shows = record { b = i.terms; t = i.thread; d0 = i.desk; d1 = c.get-rows.new.self; p = i.passed; totals = i.totals; opened = i.opened; s = c.self.invariant; rows = rows; g = c.get-rows.ensures } in
    let rows' : Rows g.row.V.Denot = record rows { resting = c.sweep-taken.new.resting } in
    let d2 = c.sweep-taken.new.desk in
    let room = c.sweep-taken.ensures.room in
    let from = c.args.quota.now.seen in
    let m = c.in_default.ensures.swept in
    let q : Quota = c.args.quota.now in
    let low = rw (← c.self.view_is) at c.requires.inside in
    rw (← c.self.view_is) (purge_grows shows k from d2 c.give.new.self rows' c.give.ensures refl refl refl room m.0 m.1 low)

pub invariant_of-self-2 : goal.invariant_of-self-2
invariant_of-self-2 g c =
    let shows = g.V.Faced.shows in
    let i = c.self.inside in
    let rows = c.get-rows.result in
    let k : Start shows = record { b = i.terms; t = i.thread; d0 = i.desk; d1 = c.get-rows.new.self; p = i.passed; totals = i.totals; opened = i.opened; s = c.self.invariant; rows = rows; g = c.get-rows.ensures } in
    let rows' : Rows g.row.V.Denot = record rows { resting = c.sweep-taken.new.resting } in
    let d2 = c.sweep-taken.new.desk in
    let room = c.sweep-taken.ensures.room in
    let from = c.args.quota.now.seen in
    let m = c.in-Some.ensures.swept in
    let rest = c.in-Some.rest in
    let x : Rested = record { place = rest.place; shown = shows rest.v } in
    let e = entry_as c.take_entry-entry.result i.thread caretaker false rest.place c.face.result (shows rest.v).face c.take_entry-entry.ensures c.face.ensures in
    let q : Quota = c.args.quota.now in
    let made = c.quota_at.ensures in
    rw (c.with_counted-self-inside.ensures ∙ ap (totals_after i.totals) e) (care_keeps shows k from d2 c.give.new.self rows' c.give.ensures refl refl refl room c.in-Some.passed m.0 x m.1)

pub returns-clause-answer : goal.returns-clause-answer
returns-clause-answer g c =
    let shows = g.V.Faced.shows in
    let i = c.self.inside in
    let rows = c.get-rows.result in
    let k : Start shows = record { b = i.terms; t = i.thread; d0 = i.desk; d1 = c.get-rows.new.self; p = i.passed; totals = i.totals; opened = i.opened; s = c.self.invariant; rows = rows; g = c.get-rows.ensures } in
    let rows' : Rows g.row.V.Denot = record rows { resting = c.sweep-taken.new.resting } in
    let d2 = c.sweep-taken.new.desk in
    let room = c.sweep-taken.ensures.room in
    let from = c.args.quota.now.seen in
    let m = c.in-Some.ensures.swept in
    let rest = c.in-Some.rest in
    let x : Rested = record { place = rest.place; shown = shows rest.v } in
    let e = entry_as c.take_entry-entry.result i.thread caretaker false rest.place c.face.result (shows rest.v).face c.take_entry-entry.ensures c.face.ensures in
    let q : Quota = c.args.quota.now in
    let made = c.quota_at.ensures in
    rw (← c.self.view_is) (purge_one shows k from d2 c.give.new.self rows' c.give.ensures refl refl refl room c.in-Some.passed m.0 x m.1 q c.quota_at.result (let z = made.0 in let y = c.if-quota-eq0.false in omega arith) refl made.1 (λ h. made.2 (let y = made.1 in omega arith) ∙ ap (nth_place i.thread i.terms.threads) (sym made.1)))

pub returns-clause-quota : goal.returns-clause-quota
returns-clause-quota g c =
    let shows = g.V.Faced.shows in
    let i = c.self.inside in
    let rows = c.get-rows.result in
    let k : Start shows = record { b = i.terms; t = i.thread; d0 = i.desk; d1 = c.get-rows.new.self; p = i.passed; totals = i.totals; opened = i.opened; s = c.self.invariant; rows = rows; g = c.get-rows.ensures } in
    let rows' : Rows g.row.V.Denot = record rows { resting = c.sweep-taken.new.resting } in
    let d2 = c.sweep-taken.new.desk in
    let room = c.sweep-taken.ensures.room in
    let from = c.args.quota.now.seen in
    let m = c.in-Some.ensures.swept in
    let rest = c.in-Some.rest in
    let x : Rested = record { place = rest.place; shown = shows rest.v } in
    let e = entry_as c.take_entry-entry.result i.thread caretaker false rest.place c.face.result (shows rest.v).face c.take_entry-entry.ensures c.face.ensures in
    let q : Quota = c.args.quota.now in
    let made = c.quota_at.ensures in
    rw (← c.self.view_is) (purge_goes (history i.terms i.thread i.passed i.desk) (history i.terms i.thread i.passed c.give.new.self) q c.quota_at.result (shows rest.v) (purge_one shows k from d2 c.give.new.self rows' c.give.ensures refl refl refl room c.in-Some.passed m.0 x m.1 q c.quota_at.result (let z = made.0 in let y = c.if-quota-eq0.false in omega arith) refl made.1 (λ h. made.2 (let y = made.1 in omega arith) ∙ ap (nth_place i.thread i.terms.threads) (sym made.1))))

pub returns-clause-grows : goal.returns-clause-grows
returns-clause-grows g c =
    let shows = g.V.Faced.shows in
    let i = c.self.inside in
    let rows = c.get-rows.result in
    let k : Start shows = record { b = i.terms; t = i.thread; d0 = i.desk; d1 = c.get-rows.new.self; p = i.passed; totals = i.totals; opened = i.opened; s = c.self.invariant; rows = rows; g = c.get-rows.ensures } in
    let rows' : Rows g.row.V.Denot = record rows { resting = c.sweep-taken.new.resting } in
    let d2 = c.sweep-taken.new.desk in
    let room = c.sweep-taken.ensures.room in
    let from = c.args.quota.now.seen in
    let m = c.in-Some.ensures.swept in
    let rest = c.in-Some.rest in
    let x : Rested = record { place = rest.place; shown = shows rest.v } in
    let e = entry_as c.take_entry-entry.result i.thread caretaker false rest.place c.face.result (shows rest.v).face c.take_entry-entry.ensures c.face.ensures in
    let q : Quota = c.args.quota.now in
    let made = c.quota_at.ensures in
    rw (← c.self.view_is, c.one_mark-self-inside.ensures ∙ ap (λ z. z ∷ []) e) (care_grows shows k from d2 c.give.new.self rows' c.give.ensures refl refl refl room c.in-Some.passed m.0 x m.1 i.passed)

pub returns-then-quota-eq0-clause-grows : goal.returns-then-quota-eq0-clause-grows
returns-then-quota-eq0-clause-grows g c =
    let i = c.self.inside in
    rw (← c.self.view_is) (grows_none i.terms i.thread i.desk i.passed i.totals i.opened c.self.invariant)
