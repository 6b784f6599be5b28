use Rattle.std.proofs.Common.{◌≡◌, ◌+◌, ◌<◌, ◌∷◌, [], ◌++◌, refl, arith}
use Rattle.hx_pool.specs.declared.entries.Entry.TheVariants.{Open}
use Rattle.hx_pool.specs.declared.entries.Note.{Note}
use Rattle.hx_pool.specs.History.{plain}
use Rattle.hx_resting.specs.declared.values.Rows.{Rows}
use Rattle.hx_resting.specs.Rows.{IsAfter, known_of, rests_of}
use Rattle.hx_resting.proofs.Steps.{open_stands}
use Rattle.hx_lockboard.proofs.Calls.{Start, whole, after_of, low_of, few_of, opens_of_own, gives_after, keeps_of, calls_of, grows_of}
use Rattle.hx_lockboard.specs.Seats.{about}
use Rattle.hx_lockboard.proofs.Draining.{drains_more}
use Rattle.hx_resting.proofs.Opens.{next_small}
use Rattle.hx_pool.specs.History.{own_of, opens_of}
use Rattle.hx_pool.specs.Opening.{open_limit}
use Rattle.hx_lockboard.proofs.Calls.{calls_none, grows_none}
use Rattle.hx_lockboard.proofs.seat.LockSeatSeat.open_new.Goals as goal

pub give-requires-clause-after : goal.give-requires-clause-after
give-requires-clause-after g c =
    let shows = g.V.Faced.shows in
    let i = c.self.inside in
    let rows = c.get-rows.result in
    let k : Start shows = record { b = i.terms; t = i.thread; d0 = i.desk; d1 = c.get-rows.new.self; p = i.passed; totals = i.totals; opened = i.opened; s = c.self.invariant; rows = rows; g = c.get-rows.ensures } in
    let a = after_of shows k in
    let low = low_of shows k in
    let H = whole shows k in
    let limit = c.most_opens.ensures in
    let test = c.if-self-most_opens.false in
    let own = opens_of_own shows k in
    let is = c.self.invariant.opened_is in
    let room : opens_of (own_of i.thread H) < open_limit i.thread = omega arith in
    let more : opens_of i.desk.view.mine < open_limit i.thread = omega arith in
    let x : Note = plain (Open i.thread c.args.n (record { 0 = rows.next })) in
    let rows' : Rows g.row.V.Denot = record rows { next = rows.next + 1 } in
    let after : IsAfter shows i.terms (H ++ x ∷ []) rows' = record { stands = open_stands i.terms i.thread low H (known_of shows rows) (rests_of shows rows.resting.items) a.stands c.args.n (record { 0 = rows.next }) c.requires refl room; roomy = a.roomy } in
    gives_after shows k c.write.new.self (x ∷ []) c.write.ensures rows' after

pub invariant_of-self-2 : goal.invariant_of-self-2
invariant_of-self-2 g c =
    let shows = g.V.Faced.shows in
    let i = c.self.inside in
    let rows = c.get-rows.result in
    let k : Start shows = record { b = i.terms; t = i.thread; d0 = i.desk; d1 = c.get-rows.new.self; p = i.passed; totals = i.totals; opened = i.opened; s = c.self.invariant; rows = rows; g = c.get-rows.ensures } in
    let a = after_of shows k in
    let low = low_of shows k in
    let H = whole shows k in
    let limit = c.most_opens.ensures in
    let test = c.if-self-most_opens.false in
    let own = opens_of_own shows k in
    let is = c.self.invariant.opened_is in
    let room : opens_of (own_of i.thread H) < open_limit i.thread = omega arith in
    let more : opens_of i.desk.view.mine < open_limit i.thread = omega arith in
    let x : Note = plain (Open i.thread c.args.n (record { 0 = rows.next })) in
    let rows' : Rows g.row.V.Denot = record rows { next = rows.next + 1 } in
    let after : IsAfter shows i.terms (H ++ x ∷ []) rows' = record { stands = open_stands i.terms i.thread low H (known_of shows rows) (rests_of shows rows.resting.items) a.stands c.args.n (record { 0 = rows.next }) c.requires refl room; roomy = a.roomy } in
    keeps_of shows k c.write.new.self (x ∷ []) c.write.ensures c.give.new.self c.give.ensures (refl, tt) rows' after i.passed _ (i.opened + 1) (drains_more (about i.terms i.thread i.desk) i.desk.view.mine (x ∷ []) i.passed (tt, tt) c.self.invariant.drains) c.with_counted-self-inside.ensures refl (omega arith)

pub returns-clause-answer : goal.returns-clause-answer
returns-clause-answer g c =
    let shows = g.V.Faced.shows in
    let i = c.self.inside in
    let rows = c.get-rows.result in
    let k : Start shows = record { b = i.terms; t = i.thread; d0 = i.desk; d1 = c.get-rows.new.self; p = i.passed; totals = i.totals; opened = i.opened; s = c.self.invariant; rows = rows; g = c.get-rows.ensures } in
    let a = after_of shows k in
    let low = low_of shows k in
    let H = whole shows k in
    let limit = c.most_opens.ensures in
    let test = c.if-self-most_opens.false in
    let own = opens_of_own shows k in
    let is = c.self.invariant.opened_is in
    let room : opens_of (own_of i.thread H) < open_limit i.thread = omega arith in
    let more : opens_of i.desk.view.mine < open_limit i.thread = omega arith in
    let x : Note = plain (Open i.thread c.args.n (record { 0 = rows.next })) in
    let rows' : Rows g.row.V.Denot = record rows { next = rows.next + 1 } in
    let after : IsAfter shows i.terms (H ++ x ∷ []) rows' = record { stands = open_stands i.terms i.thread low H (known_of shows rows) (rests_of shows rows.resting.items) a.stands c.args.n (record { 0 = rows.next }) c.requires refl room; roomy = a.roomy } in
    rw (← c.self.view_is) (more, calls_of shows k c.write.new.self (x ∷ []) c.write.ensures c.give.new.self c.give.ensures (refl, tt) rows' after refl)

pub overflow_add-rows : goal.overflow_add-rows
overflow_add-rows g c =
    let shows = g.V.Faced.shows in
    let i = c.self.inside in
    let rows = c.get-rows.result in
    let k : Start shows = record { b = i.terms; t = i.thread; d0 = i.desk; d1 = c.get-rows.new.self; p = i.passed; totals = i.totals; opened = i.opened; s = c.self.invariant; rows = rows; g = c.get-rows.ensures } in
    let a = after_of shows k in
    let low = low_of shows k in
    let H = whole shows k in
    let small = next_small i.terms H (known_of shows rows) (rests_of shows rows.resting.items) a.stands (few_of shows k) in omega arith

pub returns-then-self-most_opens-clause-answer : goal.returns-then-self-most_opens-clause-answer
returns-then-self-most_opens-clause-answer g c =
    let i = c.self.inside in
    let s = c.self.invariant in
    let is = s.opened_is in
    let few = s.few in
    let limit = c.most_opens.ensures in
    let test = c.if-self-most_opens.true in
    let at : opens_of i.desk.view.mine ≡ open_limit i.thread = omega arith in
    rw (← c.self.view_is) (at, calls_none i.terms i.thread i.desk i.passed i.totals i.opened s)

pub returns-clause-grows : goal.returns-clause-grows
returns-clause-grows g c =
    let shows = g.V.Faced.shows in
    let i = c.self.inside in
    let rows = c.get-rows.result in
    let k : Start shows = record { b = i.terms; t = i.thread; d0 = i.desk; d1 = c.get-rows.new.self; p = i.passed; totals = i.totals; opened = i.opened; s = c.self.invariant; rows = rows; g = c.get-rows.ensures } in
    let a = after_of shows k in
    let low = low_of shows k in
    let H = whole shows k in
    let limit = c.most_opens.ensures in
    let test = c.if-self-most_opens.false in
    let own = opens_of_own shows k in
    let is = c.self.invariant.opened_is in
    let room : opens_of (own_of i.thread H) < open_limit i.thread = omega arith in
    let more : opens_of i.desk.view.mine < open_limit i.thread = omega arith in
    let x : Note = plain (Open i.thread c.args.n (record { 0 = rows.next })) in
    let rows' : Rows g.row.V.Denot = record rows { next = rows.next + 1 } in
    let after : IsAfter shows i.terms (H ++ x ∷ []) rows' = record { stands = open_stands i.terms i.thread low H (known_of shows rows) (rests_of shows rows.resting.items) a.stands c.args.n (record { 0 = rows.next }) c.requires refl room; roomy = a.roomy } in
    rw (← c.self.view_is) (grows_of shows k c.write.new.self (x ∷ []) c.write.ensures c.give.new.self c.give.ensures (refl, tt) rows' after refl i.passed _ c.one_mark-self-inside.ensures (omega arith))

pub returns-then-self-most_opens-clause-grows : goal.returns-then-self-most_opens-clause-grows
returns-then-self-most_opens-clause-grows g c =
    let i = c.self.inside in
    rw (← c.self.view_is) (grows_none i.terms i.thread i.desk i.passed i.totals i.opened c.self.invariant)
