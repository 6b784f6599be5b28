use Rattle.std.proofs.Common.{◌*◌, ◌∷◌, [], List, refl, ap, ◌∙◌, sym, subst, arith}
use Rattle.std.proofs.lemmas.List.{length-map}
use Rattle.hx_pool.specs.Rules.{allows}
use Rattle.hx_pool.specs.Totals.{totals_after}
use Rattle.hx_resting.specs.declared.values.Rest.{Rest}
use Rattle.hx_resting.specs.declared.values.Rows.{Rows}
use Rattle.hx_resting.specs.Rows.{Rested, rests_of}
use Rattle.hx_lockboard.specs.Order.{StartsAt}
use Rattle.hx_lockboard.proofs.Taken.{entry_as}
use Rattle.hx_lockboard.proofs.Calls.{Start, gives_after, gives_own, keeps_on, calls_of, grows_of, grows_none}
use Rattle.hx_lockboard.proofs.Sweeps.{sweep_goes}
use Rattle.hx_lockboard.proofs.Overs.{lead, lead_after, none_keeps, sees_none, none_grows, over_keeps, takes_over, over_grows}
use Rattle.hx_lockboard.proofs.seat.LockSeatSeat.take_over.Goals as goal

pub give-requires-clause-after : goal.give-requires-clause-after
give-requires-clause-after g c =
    let shows = g.V.Faced.shows in
    let i = c.self.inside in
    let rows = c.get-rows.result in
    let k : Start shows = record { b = i.terms; t = i.thread; d0 = i.desk; d1 = c.get-rows.new.self; p = i.passed; totals = i.totals; opened = i.opened; s = c.self.invariant; rows = rows; g = c.get-rows.ensures } in
    let counted = c.len-count.ensures ∙ (rows.resting.ok.0 ∙ sym (length-map rows.resting.items (λ x. let r : Rested = record { place = x.place; shown = shows x.v } in r))) in
    let count = c.len-count.result in
    let d1 = c.write.new.self in
    gives_after shows k d1 (lead shows k count counted) c.write.ensures rows (lead_after shows k count counted)

pub invariant_of-self-then-count-self : goal.invariant_of-self-then-count-self
invariant_of-self-then-count-self g c =
    let shows = g.V.Faced.shows in
    let i = c.self.inside in
    let rows = c.get-rows.result in
    let k : Start shows = record { b = i.terms; t = i.thread; d0 = i.desk; d1 = c.get-rows.new.self; p = i.passed; totals = i.totals; opened = i.opened; s = c.self.invariant; rows = rows; g = c.get-rows.ensures } in
    let counted = c.len-count.ensures ∙ (rows.resting.ok.0 ∙ sym (length-map rows.resting.items (λ x. let r : Rested = record { place = x.place; shown = shows x.v } in r))) in
    let count = c.len-count.result in
    let d1 = c.write.new.self in
    keeps_on shows k d1 (lead shows k count counted) c.write.ensures c.give.new.self c.give.ensures (refl, tt) rows (lead_after shows k count counted) i.totals (tt, tt) refl refl

pub returns-then-count-self-clause-answer : goal.returns-then-count-self-clause-answer
returns-then-count-self-clause-answer g c =
    let shows = g.V.Faced.shows in
    let i = c.self.inside in
    let rows = c.get-rows.result in
    let k : Start shows = record { b = i.terms; t = i.thread; d0 = i.desk; d1 = c.get-rows.new.self; p = i.passed; totals = i.totals; opened = i.opened; s = c.self.invariant; rows = rows; g = c.get-rows.ensures } in
    let counted = c.len-count.ensures ∙ (rows.resting.ok.0 ∙ sym (length-map rows.resting.items (λ x. let r : Rested = record { place = x.place; shown = shows x.v } in r))) in
    let count = c.len-count.result in
    let d1 = c.write.new.self in
    rw (← c.self.view_is) (c.if-not-allows_some.ensures, c.if-count-self.true, calls_of shows k d1 (lead shows k count counted) c.write.ensures c.give.new.self c.give.ensures (refl, tt) rows (lead_after shows k count counted) refl)

pub give-requires-2-clause-after : goal.give-requires-2-clause-after
give-requires-2-clause-after g c =
    let shows = g.V.Faced.shows in
    let i = c.self.inside in
    let rows = c.get-rows.result in
    let k : Start shows = record { b = i.terms; t = i.thread; d0 = i.desk; d1 = c.get-rows.new.self; p = i.passed; totals = i.totals; opened = i.opened; s = c.self.invariant; rows = rows; g = c.get-rows.ensures } in
    let rows' : Rows g.row.V.Denot = record rows { resting = c.sweep-taken.new.resting } in
    let counted = c.len-count.ensures ∙ (rows.resting.ok.0 ∙ sym (length-map rows.resting.items (λ x. let r : Rested = record { place = x.place; shown = shows x.v } in r))) in
    let count = c.len-count.result in
    let d1 = c.write.new.self in
    let d2 = c.sweep-taken.new.desk in
    let room = c.sweep-taken.ensures.room in
    let go = sweep_goes shows k (lead shows k count counted) (refl, tt) refl (lead_after shows k count counted).stands c.args.n c.args.first (λ u. allows i.terms.rules.mode c.args.first u) c.start_of-from.result d1 d2 c.write.ensures rows' refl refl refl room c.sweep-taken.result (64 * i.terms.threads) c.sweep-taken.ensures.swept (λ u m h. m) in
    gives_after shows k d2 go.ys go.wrote rows' go.after

pub give-requires-2-clause-own : goal.give-requires-2-clause-own
give-requires-2-clause-own g c =
    let shows = g.V.Faced.shows in
    let i = c.self.inside in
    let rows = c.get-rows.result in
    let k : Start shows = record { b = i.terms; t = i.thread; d0 = i.desk; d1 = c.get-rows.new.self; p = i.passed; totals = i.totals; opened = i.opened; s = c.self.invariant; rows = rows; g = c.get-rows.ensures } in
    let rows' : Rows g.row.V.Denot = record rows { resting = c.sweep-taken.new.resting } in
    let counted = c.len-count.ensures ∙ (rows.resting.ok.0 ∙ sym (length-map rows.resting.items (λ x. let r : Rested = record { place = x.place; shown = shows x.v } in r))) in
    let count = c.len-count.result in
    let d1 = c.write.new.self in
    let d2 = c.sweep-taken.new.desk in
    let room = c.sweep-taken.ensures.room in
    let go = sweep_goes shows k (lead shows k count counted) (refl, tt) refl (lead_after shows k count counted).stands c.args.n c.args.first (λ u. allows i.terms.rules.mode c.args.first u) c.start_of-from.result d1 d2 c.write.ensures rows' refl refl refl room c.sweep-taken.result (64 * i.terms.threads) c.sweep-taken.ensures.swept (λ u m h. m) in
    gives_own shows k d2 go.ys go.wrote go.all

pub invariant_of-self-in_default : goal.invariant_of-self-in_default
invariant_of-self-in_default g c =
    let shows = g.V.Faced.shows in
    let i = c.self.inside in
    let rows = c.get-rows.result in
    let k : Start shows = record { b = i.terms; t = i.thread; d0 = i.desk; d1 = c.get-rows.new.self; p = i.passed; totals = i.totals; opened = i.opened; s = c.self.invariant; rows = rows; g = c.get-rows.ensures } in
    let rows' : Rows g.row.V.Denot = record rows { resting = c.sweep-taken.new.resting } in
    let counted = c.len-count.ensures ∙ (rows.resting.ok.0 ∙ sym (length-map rows.resting.items (λ x. let r : Rested = record { place = x.place; shown = shows x.v } in r))) in
    let count = c.len-count.result in
    let d1 = c.write.new.self in
    let d2 = c.sweep-taken.new.desk in
    let room = c.sweep-taken.ensures.room in
    let starts = subst (λ (l : List (Rest g.row.V.Denot)). StartsAt i.thread i.terms.threads (rests_of shows l) i.terms.rules.mode c.args.first c.start_of-from.result) c.as_slice.ensures.value c.start_of-from.ensures.starts in
    let m = c.in_default.ensures.swept in
    none_keeps shows k count counted c.args.n c.args.first d1 d2 c.write.ensures rows' refl refl refl room c.start_of-from.result starts c.give-2.new.self c.give-2.ensures m.0 m.1

pub returns-in_default-clause-answer : goal.returns-in_default-clause-answer
returns-in_default-clause-answer g c =
    let shows = g.V.Faced.shows in
    let i = c.self.inside in
    let rows = c.get-rows.result in
    let k : Start shows = record { b = i.terms; t = i.thread; d0 = i.desk; d1 = c.get-rows.new.self; p = i.passed; totals = i.totals; opened = i.opened; s = c.self.invariant; rows = rows; g = c.get-rows.ensures } in
    let rows' : Rows g.row.V.Denot = record rows { resting = c.sweep-taken.new.resting } in
    let counted = c.len-count.ensures ∙ (rows.resting.ok.0 ∙ sym (length-map rows.resting.items (λ x. let r : Rested = record { place = x.place; shown = shows x.v } in r))) in
    let count = c.len-count.result in
    let d1 = c.write.new.self in
    let d2 = c.sweep-taken.new.desk in
    let room = c.sweep-taken.ensures.room in
    let starts = subst (λ (l : List (Rest g.row.V.Denot)). StartsAt i.thread i.terms.threads (rests_of shows l) i.terms.rules.mode c.args.first c.start_of-from.result) c.as_slice.ensures.value c.start_of-from.ensures.starts in
    let m = c.in_default.ensures.swept in
    rw (← c.self.view_is) (c.if-not-allows_some.ensures, sees_none shows k count counted c.args.n c.args.first d1 d2 c.write.ensures rows' refl refl refl room c.start_of-from.result starts c.give-2.new.self c.give-2.ensures m.0 m.1 c.if-count-self.false)

pub returns-in_default-clause-grows : goal.returns-in_default-clause-grows
returns-in_default-clause-grows g c =
    let shows = g.V.Faced.shows in
    let i = c.self.inside in
    let rows = c.get-rows.result in
    let k : Start shows = record { b = i.terms; t = i.thread; d0 = i.desk; d1 = c.get-rows.new.self; p = i.passed; totals = i.totals; opened = i.opened; s = c.self.invariant; rows = rows; g = c.get-rows.ensures } in
    let rows' : Rows g.row.V.Denot = record rows { resting = c.sweep-taken.new.resting } in
    let counted = c.len-count.ensures ∙ (rows.resting.ok.0 ∙ sym (length-map rows.resting.items (λ x. let r : Rested = record { place = x.place; shown = shows x.v } in r))) in
    let count = c.len-count.result in
    let d1 = c.write.new.self in
    let d2 = c.sweep-taken.new.desk in
    let room = c.sweep-taken.ensures.room in
    let starts = subst (λ (l : List (Rest g.row.V.Denot)). StartsAt i.thread i.terms.threads (rests_of shows l) i.terms.rules.mode c.args.first c.start_of-from.result) c.as_slice.ensures.value c.start_of-from.ensures.starts in
    let m = c.in_default.ensures.swept in
    rw (← c.self.view_is) (none_grows shows k count counted c.args.n c.args.first d1 d2 c.write.ensures rows' refl refl refl room c.start_of-from.result starts c.give-2.new.self c.give-2.ensures m.0 m.1)

pub invariant_of-self-2 : goal.invariant_of-self-2
invariant_of-self-2 g c =
    let shows = g.V.Faced.shows in
    let i = c.self.inside in
    let rows = c.get-rows.result in
    let k : Start shows = record { b = i.terms; t = i.thread; d0 = i.desk; d1 = c.get-rows.new.self; p = i.passed; totals = i.totals; opened = i.opened; s = c.self.invariant; rows = rows; g = c.get-rows.ensures } in
    let rows' : Rows g.row.V.Denot = record rows { resting = c.sweep-taken.new.resting } in
    let counted = c.len-count.ensures ∙ (rows.resting.ok.0 ∙ sym (length-map rows.resting.items (λ x. let r : Rested = record { place = x.place; shown = shows x.v } in r))) in
    let count = c.len-count.result in
    let d1 = c.write.new.self in
    let d2 = c.sweep-taken.new.desk in
    let room = c.sweep-taken.ensures.room in
    let starts = subst (λ (l : List (Rest g.row.V.Denot)). StartsAt i.thread i.terms.threads (rests_of shows l) i.terms.rules.mode c.args.first c.start_of-from.result) c.as_slice.ensures.value c.start_of-from.ensures.starts in
    let m = c.in-Some.ensures.swept in
    let rest = c.in-Some.rest in
    let x : Rested = record { place = rest.place; shown = shows rest.v } in
    let e = entry_as c.take_entry-entry.result i.thread c.args.n c.args.first rest.place c.face.result (shows rest.v).face c.take_entry-entry.ensures c.face.ensures in
    rw (c.with_counted-self-inside.ensures ∙ ap (totals_after i.totals) e) (over_keeps shows k count counted c.args.n c.args.first d1 d2 c.write.ensures rows' refl refl refl room c.start_of-from.result starts c.give-2.new.self c.give-2.ensures c.in-Some._passed m.0 x m.1)

pub returns-clause-answer : goal.returns-clause-answer
returns-clause-answer g c =
    let shows = g.V.Faced.shows in
    let i = c.self.inside in
    let rows = c.get-rows.result in
    let k : Start shows = record { b = i.terms; t = i.thread; d0 = i.desk; d1 = c.get-rows.new.self; p = i.passed; totals = i.totals; opened = i.opened; s = c.self.invariant; rows = rows; g = c.get-rows.ensures } in
    let rows' : Rows g.row.V.Denot = record rows { resting = c.sweep-taken.new.resting } in
    let counted = c.len-count.ensures ∙ (rows.resting.ok.0 ∙ sym (length-map rows.resting.items (λ x. let r : Rested = record { place = x.place; shown = shows x.v } in r))) in
    let count = c.len-count.result in
    let d1 = c.write.new.self in
    let d2 = c.sweep-taken.new.desk in
    let room = c.sweep-taken.ensures.room in
    let starts = subst (λ (l : List (Rest g.row.V.Denot)). StartsAt i.thread i.terms.threads (rests_of shows l) i.terms.rules.mode c.args.first c.start_of-from.result) c.as_slice.ensures.value c.start_of-from.ensures.starts in
    let m = c.in-Some.ensures.swept in
    let rest = c.in-Some.rest in
    let x : Rested = record { place = rest.place; shown = shows rest.v } in
    let e = entry_as c.take_entry-entry.result i.thread c.args.n c.args.first rest.place c.face.result (shows rest.v).face c.take_entry-entry.ensures c.face.ensures in
    rw (← c.self.view_is) (takes_over shows k count counted c.args.n c.args.first d1 d2 c.write.ensures rows' refl refl refl room c.start_of-from.result starts c.give-2.new.self c.give-2.ensures c.in-Some._passed m.0 x m.1 c.if-count-self.false)

pub returns-clause-grows : goal.returns-clause-grows
returns-clause-grows g c =
    let shows = g.V.Faced.shows in
    let i = c.self.inside in
    let rows = c.get-rows.result in
    let k : Start shows = record { b = i.terms; t = i.thread; d0 = i.desk; d1 = c.get-rows.new.self; p = i.passed; totals = i.totals; opened = i.opened; s = c.self.invariant; rows = rows; g = c.get-rows.ensures } in
    let rows' : Rows g.row.V.Denot = record rows { resting = c.sweep-taken.new.resting } in
    let counted = c.len-count.ensures ∙ (rows.resting.ok.0 ∙ sym (length-map rows.resting.items (λ x. let r : Rested = record { place = x.place; shown = shows x.v } in r))) in
    let count = c.len-count.result in
    let d1 = c.write.new.self in
    let d2 = c.sweep-taken.new.desk in
    let room = c.sweep-taken.ensures.room in
    let starts = subst (λ (l : List (Rest g.row.V.Denot)). StartsAt i.thread i.terms.threads (rests_of shows l) i.terms.rules.mode c.args.first c.start_of-from.result) c.as_slice.ensures.value c.start_of-from.ensures.starts in
    let m = c.in-Some.ensures.swept in
    let rest = c.in-Some.rest in
    let x : Rested = record { place = rest.place; shown = shows rest.v } in
    let e = entry_as c.take_entry-entry.result i.thread c.args.n c.args.first rest.place c.face.result (shows rest.v).face c.take_entry-entry.ensures c.face.ensures in
    rw (← c.self.view_is, c.one_mark-self-inside.ensures ∙ ap (λ z. z ∷ []) e) (over_grows shows k count counted c.args.n c.args.first d1 d2 c.write.ensures rows' refl refl refl room c.start_of-from.result starts c.give-2.new.self c.give-2.ensures c.in-Some._passed m.0 x m.1)

pub returns-then-count-self-clause-grows : goal.returns-then-count-self-clause-grows
returns-then-count-self-clause-grows g c =
    let shows = g.V.Faced.shows in
    let i = c.self.inside in
    let rows = c.get-rows.result in
    let k : Start shows = record { b = i.terms; t = i.thread; d0 = i.desk; d1 = c.get-rows.new.self; p = i.passed; totals = i.totals; opened = i.opened; s = c.self.invariant; rows = rows; g = c.get-rows.ensures } in
    let counted = c.len-count.ensures ∙ (rows.resting.ok.0 ∙ sym (length-map rows.resting.items (λ x. let r : Rested = record { place = x.place; shown = shows x.v } in r))) in
    let count = c.len-count.result in
    let d1 = c.write.new.self in
    rw (← c.self.view_is) (grows_of shows k d1 (lead shows k count counted) c.write.ensures c.give.new.self c.give.ensures (refl, tt) rows (lead_after shows k count counted) refl i.passed [] refl (omega arith))

pub returns-then-not-allows_some-clause-grows : goal.returns-then-not-allows_some-clause-grows
returns-then-not-allows_some-clause-grows g c =
    let i = c.self.inside in
    rw (← c.self.view_is) (grows_none i.terms i.thread i.desk i.passed i.totals i.opened c.self.invariant)
