use Rattle.std.proofs.Common.{sym, ap, subst, ◌∙◌}
use Rattle.hx_base.specs.declared.rules.PoolRules.{PoolRules}
use Rattle.hx_places.specs.Turns.{Turn}
use Rattle.hx_places.specs.Asks.{MayReadGate}
use Rattle.hx_rows.proofs.Stepping.{looks_rest}
use Rattle.hx_rows.proofs.Parking.{after_gate, after_up, went_up, admits, over}
use Rattle.hx_rows.proofs.steps.admit.Goals as goal

pub gate-requires : goal.gate-requires
gate-requires g c =
    let f = c.in-Some.ensures in
    record { ease = subst MayReadGate (sym (ap (λ (s : Turn). s.call) (looks_rest c.args.seat.now c.find_vacant.new.seat f.looks f.steps f.looked c.requires.rest).turn_is)) tt }

pub up-count-requires-clause-due : goal.up-count-requires-clause-due
up-count-requires-clause-due g c =
    let f = c.in-Some.ensures in
    ap (λ (s : Turn). s.due) (after_gate c.args.seat.now c.find_vacant.new.seat c.gate.new.self f.looks c.gate.result f.steps f.looked c.requires.rest c.gate.ensures.notes).turn_is

pub up-count-requires-clause-ease : goal.up-count-requires-clause-ease
up-count-requires-clause-ease g c =
    let f = c.in-Some.ensures in
    ap (λ (s : Turn). s.call) (after_gate c.args.seat.now c.find_vacant.new.seat c.gate.new.self f.looks c.gate.result f.steps f.looked c.requires.rest c.gate.ensures.notes).turn_is

pub down-requires-clause-due : goal.down-requires-clause-due
down-requires-clause-due g c =
    let f = c.in-Some.ensures in
    λ e. went_up c.up-count.result
    (sym (ap (λ (s : Turn). s.due) (after_up c.args.seat.now c.find_vacant.new.seat c.gate.new.self c.up-count.new.self f.looks c.gate.result c.up-count.result f.steps f.looked c.requires.rest c.if-gate.false c.gate.ensures.notes c.up-count.ensures.notes)) ∙ e)

pub down-requires-clause-ease : goal.down-requires-clause-ease
down-requires-clause-ease g c =
    let f = c.in-Some.ensures in
    ap (λ (s : Turn). s.call) (after_up c.args.seat.now c.find_vacant.new.seat c.gate.new.self c.up-count.new.self f.looks c.gate.result c.up-count.result f.steps f.looked c.requires.rest c.if-gate.false c.gate.ensures.notes c.up-count.ensures.notes)

pub returns-then-not-has_room : goal.returns-then-not-has_room
returns-then-not-has_room g c =
    over c.args.seat.now c.find_vacant.new.seat c.gate.new.self c.up-count.new.self c.down.new.self c.in-Some.place c.gate.result c.up-count.result c.down.result c.rules.result.max
    c.in-Some.ensures c.if-gate.false c.gate.ensures.notes c.up-count.ensures.notes (ap (λ (r : PoolRules). r.max) c.rules.ensures) c.if-not-has_room.ensures c.down.ensures.notes

pub returns : goal.returns
returns g c =
    admits c.args.seat.now c.find_vacant.new.seat c.gate.new.self c.up-count.new.self c.in-Some.place c.gate.result c.up-count.result c.rules.result.max
    c.requires.rest c.in-Some.ensures c.if-gate.false c.gate.ensures.notes c.up-count.ensures.notes (ap (λ (r : PoolRules). r.max) c.rules.ensures) c.if-not-has_room.ensures
