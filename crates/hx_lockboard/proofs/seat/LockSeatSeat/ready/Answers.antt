use Rattle.std.proofs.Common.{◌≡◌, Bool, true, false, ◌∷◌, [], refl, arith}
use Rattle.std.specs.Prelude.{not}
use Rattle.hx_pool.specs.declared.entries.Entry.TheVariants.{Gate}
use Rattle.hx_pool.specs.declared.entries.Note.{Note}
use Rattle.hx_pool.specs.History.{plain}
use Rattle.hx_resting.specs.Rows.{known_of, rests_of}
use Rattle.hx_resting.proofs.Steps.{gate_stands}
use Rattle.hx_lockboard.proofs.Calls.{Start, whole, after_of, low_of, gives_after, keeps_on, calls_of, grows_of}
use Rattle.hx_lockboard.proofs.seat.LockSeatSeat.ready.Goals as goal

not_not : (b : Bool) → not (not b) ≡ b
not_not true = refl
not_not false = refl

pub give-requires-clause-after : goal.give-requires-clause-after
give-requires-clause-after g c =
    let shows = g.V.Faced.shows in
    let i = c.self.inside in
    let rows = c.get-rows.result in
    let k : Start shows = record { b = i.terms; t = i.thread; d0 = i.desk; d1 = c.get-rows.new.self; p = i.passed; totals = i.totals; opened = i.opened; s = c.self.invariant; rows = rows; g = c.get-rows.ensures } in
    let x : Note = plain (Gate i.thread rows.draining) in
    let a = after_of shows k in
    gives_after shows k c.write.new.self (x ∷ []) c.write.ensures rows record { stands = gate_stands i.terms i.thread (low_of shows k) (whole shows k) (known_of shows rows) (rests_of shows rows.resting.items) a.stands; roomy = a.roomy }

pub invariant_of-self : goal.invariant_of-self
invariant_of-self g c =
    let shows = g.V.Faced.shows in
    let i = c.self.inside in
    let rows = c.get-rows.result in
    let k : Start shows = record { b = i.terms; t = i.thread; d0 = i.desk; d1 = c.get-rows.new.self; p = i.passed; totals = i.totals; opened = i.opened; s = c.self.invariant; rows = rows; g = c.get-rows.ensures } in
    let x : Note = plain (Gate i.thread rows.draining) in
    let a = after_of shows k in
    keeps_on shows k c.write.new.self (x ∷ []) c.write.ensures c.give.new.self c.give.ensures (refl, tt) rows record { stands = gate_stands i.terms i.thread (low_of shows k) (whole shows k) (known_of shows rows) (rests_of shows rows.resting.items) a.stands; roomy = a.roomy } i.totals (tt, tt) refl refl

pub returns-clause-answer : goal.returns-clause-answer
returns-clause-answer g c =
    let shows = g.V.Faced.shows in
    let i = c.self.inside in
    let rows = c.get-rows.result in
    let k : Start shows = record { b = i.terms; t = i.thread; d0 = i.desk; d1 = c.get-rows.new.self; p = i.passed; totals = i.totals; opened = i.opened; s = c.self.invariant; rows = rows; g = c.get-rows.ensures } in
    let x : Note = plain (Gate i.thread rows.draining) in
    let a = after_of shows k in
    rw (← c.self.view_is) (rw not_not (calls_of shows k c.write.new.self (x ∷ []) c.write.ensures c.give.new.self c.give.ensures (refl, tt) rows record { stands = gate_stands i.terms i.thread (low_of shows k) (whole shows k) (known_of shows rows) (rests_of shows rows.resting.items) a.stands; roomy = a.roomy } refl))

pub returns-clause-grows : goal.returns-clause-grows
returns-clause-grows g c =
    let shows = g.V.Faced.shows in
    let i = c.self.inside in
    let rows = c.get-rows.result in
    let k : Start shows = record { b = i.terms; t = i.thread; d0 = i.desk; d1 = c.get-rows.new.self; p = i.passed; totals = i.totals; opened = i.opened; s = c.self.invariant; rows = rows; g = c.get-rows.ensures } in
    let x : Note = plain (Gate i.thread rows.draining) in
    let a = after_of shows k in
    rw (← c.self.view_is) (grows_of shows k c.write.new.self (x ∷ []) c.write.ensures c.give.new.self c.give.ensures (refl, tt) rows record { stands = gate_stands i.terms i.thread (low_of shows k) (whole shows k) (known_of shows rows) (rests_of shows rows.resting.items) a.stands; roomy = a.roomy } refl i.passed _ refl (omega arith))
