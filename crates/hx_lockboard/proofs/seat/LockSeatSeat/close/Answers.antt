use Rattle.std.proofs.Common.{◌∷◌, [], ◌++◌, refl, arith}
use Rattle.hx_pool.specs.declared.entries.Entry.TheVariants.{Close}
use Rattle.hx_pool.specs.declared.entries.Note.{Note}
use Rattle.hx_pool.specs.History.{plain}
use Rattle.hx_resting.specs.declared.values.Rows.{Rows}
use Rattle.hx_resting.specs.Rows.{IsAfter, known_of, rests_of}
use Rattle.hx_resting.proofs.Steps.{close_stands}
use Rattle.hx_lockboard.proofs.Calls.{Start, whole, after_of, low_of, has_of, gives_after, keeps_on, calls_of, grows_of}
use Rattle.hx_lockboard.proofs.seat.LockSeatSeat.close.Goals as goal

pub give-requires-clause-after : goal.give-requires-clause-after
give-requires-clause-after g c =
    let shows = g.V.Faced.shows in
    let i = c.self.inside in
    let rows = c.get-rows.result in
    let k : Start shows = record { b = i.terms; t = i.thread; d0 = i.desk; d1 = c.get-rows.new.self; p = i.passed; totals = i.totals; opened = i.opened; s = c.self.invariant; rows = rows; g = c.get-rows.ensures } in
    let a = after_of shows k in
    let low = low_of shows k in
    let H = whole shows k in
    let has = rw (← c.self.view_is) at c.requires in
    let x : Note = plain (Close i.thread c.args.n c.args.id) in
    let rows' : Rows g.row.V.Denot = rows in
    let after : IsAfter shows i.terms (H ++ x ∷ []) rows' = record { stands = close_stands i.terms i.thread low H (known_of shows rows) (rests_of shows rows.resting.items) a.stands c.args.n c.args.id (has_of shows k c.args.n c.args.id.0 has.0 has.1).0; roomy = a.roomy } in
    gives_after shows k c.write.new.self (x ∷ []) c.write.ensures rows' after

pub invariant_of-self : goal.invariant_of-self
invariant_of-self g c =
    let shows = g.V.Faced.shows in
    let i = c.self.inside in
    let rows = c.get-rows.result in
    let k : Start shows = record { b = i.terms; t = i.thread; d0 = i.desk; d1 = c.get-rows.new.self; p = i.passed; totals = i.totals; opened = i.opened; s = c.self.invariant; rows = rows; g = c.get-rows.ensures } in
    let a = after_of shows k in
    let low = low_of shows k in
    let H = whole shows k in
    let has = rw (← c.self.view_is) at c.requires in
    let x : Note = plain (Close i.thread c.args.n c.args.id) in
    let rows' : Rows g.row.V.Denot = rows in
    let after : IsAfter shows i.terms (H ++ x ∷ []) rows' = record { stands = close_stands i.terms i.thread low H (known_of shows rows) (rests_of shows rows.resting.items) a.stands c.args.n c.args.id (has_of shows k c.args.n c.args.id.0 has.0 has.1).0; roomy = a.roomy } in
    keeps_on shows k c.write.new.self (x ∷ []) c.write.ensures c.give.new.self c.give.ensures (refl, tt) rows' after _ (tt, tt) c.with_counted-self-inside.ensures refl

pub returns-clause-answer : goal.returns-clause-answer
returns-clause-answer g c =
    let shows = g.V.Faced.shows in
    let i = c.self.inside in
    let rows = c.get-rows.result in
    let k : Start shows = record { b = i.terms; t = i.thread; d0 = i.desk; d1 = c.get-rows.new.self; p = i.passed; totals = i.totals; opened = i.opened; s = c.self.invariant; rows = rows; g = c.get-rows.ensures } in
    let a = after_of shows k in
    let low = low_of shows k in
    let H = whole shows k in
    let has = rw (← c.self.view_is) at c.requires in
    let x : Note = plain (Close i.thread c.args.n c.args.id) in
    let rows' : Rows g.row.V.Denot = rows in
    let after : IsAfter shows i.terms (H ++ x ∷ []) rows' = record { stands = close_stands i.terms i.thread low H (known_of shows rows) (rests_of shows rows.resting.items) a.stands c.args.n c.args.id (has_of shows k c.args.n c.args.id.0 has.0 has.1).0; roomy = a.roomy } in
    rw (← c.self.view_is) (calls_of shows k c.write.new.self (x ∷ []) c.write.ensures c.give.new.self c.give.ensures (refl, tt) rows' after refl)

pub returns-clause-grows : goal.returns-clause-grows
returns-clause-grows g c =
    let shows = g.V.Faced.shows in
    let i = c.self.inside in
    let rows = c.get-rows.result in
    let k : Start shows = record { b = i.terms; t = i.thread; d0 = i.desk; d1 = c.get-rows.new.self; p = i.passed; totals = i.totals; opened = i.opened; s = c.self.invariant; rows = rows; g = c.get-rows.ensures } in
    let a = after_of shows k in
    let low = low_of shows k in
    let H = whole shows k in
    let has = rw (← c.self.view_is) at c.requires in
    let x : Note = plain (Close i.thread c.args.n c.args.id) in
    let rows' : Rows g.row.V.Denot = rows in
    let after : IsAfter shows i.terms (H ++ x ∷ []) rows' = record { stands = close_stands i.terms i.thread low H (known_of shows rows) (rests_of shows rows.resting.items) a.stands c.args.n c.args.id (has_of shows k c.args.n c.args.id.0 has.0 has.1).0; roomy = a.roomy } in
    rw (← c.self.view_is) (grows_of shows k c.write.new.self (x ∷ []) c.write.ensures c.give.new.self c.give.ensures (refl, tt) rows' after refl i.passed _ c.one_mark-self-inside.ensures (omega arith))
