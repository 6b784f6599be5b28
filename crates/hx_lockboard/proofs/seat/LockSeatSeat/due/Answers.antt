use Rattle.std.proofs.Common.{ℕ, ◌∙◌, ◌/◌, refl, sym, ap}
use Rattle.std.proofs.lemmas.List.{length-map}
use Rattle.hx_resting.specs.declared.values.Rows.{Rows}
use Rattle.hx_resting.specs.Rows.{Rested}
use Rattle.hx_resting.proofs.Looks.{notes_more}
use Rattle.hx_lockboard.proofs.Calls.{Start, gives_after, grows_none}
use Rattle.hx_lockboard.proofs.Rounds.{late_after, not_due, early_after, is_due}
use Rattle.hx_lockboard.proofs.seat.LockSeatSeat.due.Goals as goal

pub give-requires-clause-after : goal.give-requires-clause-after
give-requires-clause-after g c =
    let shows = g.V.Faced.shows in
    let i = c.self.inside in
    let rows = c.get-rows.result in
    let k : Start shows = record { b = i.terms; t = i.thread; d0 = i.desk; d1 = c.get-rows.new.self; p = i.passed; totals = i.totals; opened = i.opened; s = c.self.invariant; rows = rows; g = c.get-rows.ensures } in
    let is = ap (λ (x : ℕ). x / i.terms.rules.delay.0) c.saturating_sub.ensures in
    gives_after shows k c.write.new.self _ c.write.ensures rows (late_after shows k c.args.now _ is c.if-self-eq0.false c.if-old-k.true)

pub invariant_of-self-then-old-k : goal.invariant_of-self-then-old-k
invariant_of-self-then-old-k g c =
    let shows = g.V.Faced.shows in
    let i = c.self.inside in
    let rows = c.get-rows.result in
    let k : Start shows = record { b = i.terms; t = i.thread; d0 = i.desk; d1 = c.get-rows.new.self; p = i.passed; totals = i.totals; opened = i.opened; s = c.self.invariant; rows = rows; g = c.get-rows.ensures } in
    let is = ap (λ (x : ℕ). x / i.terms.rules.delay.0) c.saturating_sub.ensures in
    (not_due shows k c.args.now _ is c.if-self-eq0.false c.if-old-k.true c.write.new.self c.give.new.self c.write.ensures c.give.ensures).0

pub returns-then-old-k-clause-answer : goal.returns-then-old-k-clause-answer
returns-then-old-k-clause-answer g c =
    let shows = g.V.Faced.shows in
    let i = c.self.inside in
    let rows = c.get-rows.result in
    let k : Start shows = record { b = i.terms; t = i.thread; d0 = i.desk; d1 = c.get-rows.new.self; p = i.passed; totals = i.totals; opened = i.opened; s = c.self.invariant; rows = rows; g = c.get-rows.ensures } in
    let is = ap (λ (x : ℕ). x / i.terms.rules.delay.0) c.saturating_sub.ensures in
    rw (← c.self.view_is) (not_due shows k c.args.now _ is c.if-self-eq0.false c.if-old-k.true c.write.new.self c.give.new.self c.write.ensures c.give.ensures).1

pub returns-then-old-k-clause-grows : goal.returns-then-old-k-clause-grows
returns-then-old-k-clause-grows g c =
    let shows = g.V.Faced.shows in
    let i = c.self.inside in
    let rows = c.get-rows.result in
    let k : Start shows = record { b = i.terms; t = i.thread; d0 = i.desk; d1 = c.get-rows.new.self; p = i.passed; totals = i.totals; opened = i.opened; s = c.self.invariant; rows = rows; g = c.get-rows.ensures } in
    let is = ap (λ (x : ℕ). x / i.terms.rules.delay.0) c.saturating_sub.ensures in
    rw (← c.self.view_is) (not_due shows k c.args.now _ is c.if-self-eq0.false c.if-old-k.true c.write.new.self c.give.new.self c.write.ensures c.give.ensures).2

pub give-requires-2-clause-after : goal.give-requires-2-clause-after
give-requires-2-clause-after g c =
    let shows = g.V.Faced.shows in
    let i = c.self.inside in
    let rows = c.get-rows.result in
    let k : Start shows = record { b = i.terms; t = i.thread; d0 = i.desk; d1 = c.get-rows.new.self; p = i.passed; totals = i.totals; opened = i.opened; s = c.self.invariant; rows = rows; g = c.get-rows.ensures } in
    let is = ap (λ (x : ℕ). x / i.terms.rules.delay.0) c.saturating_sub.ensures in
    let rows' : Rows g.row.V.Denot = record rows { round = c.saturating_sub.result / i.terms.rules.delay.0 } in
    let counted = c.len-count.ensures ∙ (rows.resting.ok.0 ∙ sym (length-map rows.resting.items (λ x. let r : Rested = record { place = x.place; shown = shows x.v } in r))) in
    let wrote = notes_more c.get-rows.new.self c.write.new.self c.write-2.new.self _ _ c.write.ensures c.write-2.ensures in
    let early = c.if-old-k.false in
    gives_after shows k c.write-2.new.self _ wrote rows' (early_after shows k c.args.now _ is c.if-self-eq0.false early c.len-count.result counted rows' refl)

pub invariant_of-self-2 : goal.invariant_of-self-2
invariant_of-self-2 g c =
    let shows = g.V.Faced.shows in
    let i = c.self.inside in
    let rows = c.get-rows.result in
    let k : Start shows = record { b = i.terms; t = i.thread; d0 = i.desk; d1 = c.get-rows.new.self; p = i.passed; totals = i.totals; opened = i.opened; s = c.self.invariant; rows = rows; g = c.get-rows.ensures } in
    let is = ap (λ (x : ℕ). x / i.terms.rules.delay.0) c.saturating_sub.ensures in
    let rows' : Rows g.row.V.Denot = record rows { round = c.saturating_sub.result / i.terms.rules.delay.0 } in
    let counted = c.len-count.ensures ∙ (rows.resting.ok.0 ∙ sym (length-map rows.resting.items (λ x. let r : Rested = record { place = x.place; shown = shows x.v } in r))) in
    let wrote = notes_more c.get-rows.new.self c.write.new.self c.write-2.new.self _ _ c.write.ensures c.write-2.ensures in
    let early = c.if-old-k.false in
    (is_due shows k c.args.now _ is c.if-self-eq0.false early c.len-count.result counted rows' refl c.write-2.new.self c.give-2.new.self wrote c.give-2.ensures).0

pub returns-clause-answer : goal.returns-clause-answer
returns-clause-answer g c =
    let shows = g.V.Faced.shows in
    let i = c.self.inside in
    let rows = c.get-rows.result in
    let k : Start shows = record { b = i.terms; t = i.thread; d0 = i.desk; d1 = c.get-rows.new.self; p = i.passed; totals = i.totals; opened = i.opened; s = c.self.invariant; rows = rows; g = c.get-rows.ensures } in
    let is = ap (λ (x : ℕ). x / i.terms.rules.delay.0) c.saturating_sub.ensures in
    let rows' : Rows g.row.V.Denot = record rows { round = c.saturating_sub.result / i.terms.rules.delay.0 } in
    let counted = c.len-count.ensures ∙ (rows.resting.ok.0 ∙ sym (length-map rows.resting.items (λ x. let r : Rested = record { place = x.place; shown = shows x.v } in r))) in
    let wrote = notes_more c.get-rows.new.self c.write.new.self c.write-2.new.self _ _ c.write.ensures c.write-2.ensures in
    let early = c.if-old-k.false in
    rw (← c.self.view_is, c.quota_after.ensures) (is_due shows k c.args.now _ is c.if-self-eq0.false early c.len-count.result counted rows' refl c.write-2.new.self c.give-2.new.self wrote c.give-2.ensures).1

pub returns-clause-grows : goal.returns-clause-grows
returns-clause-grows g c =
    let shows = g.V.Faced.shows in
    let i = c.self.inside in
    let rows = c.get-rows.result in
    let k : Start shows = record { b = i.terms; t = i.thread; d0 = i.desk; d1 = c.get-rows.new.self; p = i.passed; totals = i.totals; opened = i.opened; s = c.self.invariant; rows = rows; g = c.get-rows.ensures } in
    let is = ap (λ (x : ℕ). x / i.terms.rules.delay.0) c.saturating_sub.ensures in
    let rows' : Rows g.row.V.Denot = record rows { round = c.saturating_sub.result / i.terms.rules.delay.0 } in
    let counted = c.len-count.ensures ∙ (rows.resting.ok.0 ∙ sym (length-map rows.resting.items (λ x. let r : Rested = record { place = x.place; shown = shows x.v } in r))) in
    let wrote = notes_more c.get-rows.new.self c.write.new.self c.write-2.new.self _ _ c.write.ensures c.write-2.ensures in
    let early = c.if-old-k.false in
    rw (← c.self.view_is, c.one_mark-self-inside.ensures) (is_due shows k c.args.now _ is c.if-self-eq0.false early c.len-count.result counted rows' refl c.write-2.new.self c.give-2.new.self wrote c.give-2.ensures).2

pub returns-then-self-eq0-clause-grows : goal.returns-then-self-eq0-clause-grows
returns-then-self-eq0-clause-grows g c =
    let i = c.self.inside in
    rw (← c.self.view_is) (grows_none i.terms i.thread i.desk i.passed i.totals i.opened c.self.invariant)
