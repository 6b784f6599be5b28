use Rattle.std.proofs.Common.{true, ◌∷◌, [], ◌++◌, refl, Some, arith}
use Rattle.hx_pool.specs.declared.entries.Entry.TheVariants.{SetGate}
use Rattle.hx_pool.specs.declared.entries.Note.{Note}
use Rattle.hx_pool.specs.History.{plain}
use Rattle.hx_resting.specs.declared.values.Rows.{Rows}
use Rattle.hx_resting.specs.Rows.{IsAfter, known_of, rests_of}
use Rattle.hx_resting.proofs.Steps.{set_gate_stands}
use Rattle.hx_lockboard.proofs.Calls.{Start, whole, after_of, low_of, gives_after, keeps_of, makes_of, grows_of}
use Rattle.hx_lockboard.specs.Seats.{about}
use Rattle.hx_lockboard.proofs.Draining.{drains_anew}
use Rattle.hx_lockboard.proofs.seat.LockSeatSeat.set_drain.Goals as goal

pub give-requires-clause-after : goal.give-requires-clause-after
give-requires-clause-after g c =
    let shows = g.V.Faced.shows in
    let i = c.self.inside in
    let rows = c.get-rows.result in
    let k : Start shows = record { b = i.terms; t = i.thread; d0 = i.desk; d1 = c.get-rows.new.self; p = i.passed; totals = i.totals; opened = i.opened; s = c.self.invariant; rows = rows; g = c.get-rows.ensures } in
    let a = after_of shows k in
    let low = low_of shows k in
    let H = whole shows k in
    let x : Note = plain (SetGate i.thread true) in
    let rows' : Rows g.row.V.Denot = record rows { draining = true } in
    let after : IsAfter shows i.terms (H ++ x ∷ []) rows' = record { stands = set_gate_stands i.terms i.thread low H (known_of shows rows) (rests_of shows rows.resting.items) a.stands true; roomy = a.roomy } in
    gives_after shows k c.write.new.self (x ∷ []) c.write.ensures rows' after

pub invariant_of-self : goal.invariant_of-self
invariant_of-self g c =
    let shows = g.V.Faced.shows in
    let i = c.self.inside in
    let rows = c.get-rows.result in
    let k : Start shows = record { b = i.terms; t = i.thread; d0 = i.desk; d1 = c.get-rows.new.self; p = i.passed; totals = i.totals; opened = i.opened; s = c.self.invariant; rows = rows; g = c.get-rows.ensures } in
    let a = after_of shows k in
    let low = low_of shows k in
    let H = whole shows k in
    let x : Note = plain (SetGate i.thread true) in
    let rows' : Rows g.row.V.Denot = record rows { draining = true } in
    let after : IsAfter shows i.terms (H ++ x ∷ []) rows' = record { stands = set_gate_stands i.terms i.thread low H (known_of shows rows) (rests_of shows rows.resting.items) a.stands true; roomy = a.roomy } in
    keeps_of shows k c.write.new.self (x ∷ []) c.write.ensures c.give.new.self c.give.ensures (refl, tt) rows' after (Some 0) i.totals i.opened (drains_anew (about i.terms i.thread i.desk) i.desk.view.mine) refl (omega arith) c.self.invariant.few

pub returns-clause-answer : goal.returns-clause-answer
returns-clause-answer g c =
    let shows = g.V.Faced.shows in
    let i = c.self.inside in
    let rows = c.get-rows.result in
    let k : Start shows = record { b = i.terms; t = i.thread; d0 = i.desk; d1 = c.get-rows.new.self; p = i.passed; totals = i.totals; opened = i.opened; s = c.self.invariant; rows = rows; g = c.get-rows.ensures } in
    let a = after_of shows k in
    let low = low_of shows k in
    let H = whole shows k in
    let x : Note = plain (SetGate i.thread true) in
    let rows' : Rows g.row.V.Denot = record rows { draining = true } in
    let after : IsAfter shows i.terms (H ++ x ∷ []) rows' = record { stands = set_gate_stands i.terms i.thread low H (known_of shows rows) (rests_of shows rows.resting.items) a.stands true; roomy = a.roomy } in
    rw (← c.self.view_is) (record { makes = makes_of shows k c.write.new.self (x ∷ []) c.write.ensures c.give.new.self c.give.ensures (refl, tt) rows' after refl (Some 0); passed = refl })

pub returns-clause-grows : goal.returns-clause-grows
returns-clause-grows g c =
    let shows = g.V.Faced.shows in
    let i = c.self.inside in
    let rows = c.get-rows.result in
    let k : Start shows = record { b = i.terms; t = i.thread; d0 = i.desk; d1 = c.get-rows.new.self; p = i.passed; totals = i.totals; opened = i.opened; s = c.self.invariant; rows = rows; g = c.get-rows.ensures } in
    let a = after_of shows k in
    let low = low_of shows k in
    let H = whole shows k in
    let x : Note = plain (SetGate i.thread true) in
    let rows' : Rows g.row.V.Denot = record rows { draining = true } in
    let after : IsAfter shows i.terms (H ++ x ∷ []) rows' = record { stands = set_gate_stands i.terms i.thread low H (known_of shows rows) (rests_of shows rows.resting.items) a.stands true; roomy = a.roomy } in
    rw (← c.self.view_is) (grows_of shows k c.write.new.self (x ∷ []) c.write.ensures c.give.new.self c.give.ensures (refl, tt) rows' after refl (Some 0) _ c.one_mark-self-inside.ensures (omega arith))
