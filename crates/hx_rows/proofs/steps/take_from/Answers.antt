use Rattle.std.proofs.Common.{sym, ap, ◌∙◌}
use Rattle.hx_places.specs.Turns.{Turn}
use Rattle.hx_rows.proofs.Taking.{taken_due, took_turn, gets, loses}
use Rattle.hx_rows.proofs.steps.take_from.Goals as goal

pub down-requires-clause-due : goal.down-requires-clause-due
down-requires-clause-due g c = λ e. taken_due
    (sym (ap (λ (s : Turn). s.due) (took_turn c.args.seat.now c.take_at.new.self c.args.n c.args.first c.args.place c.args.face _ c.in-Ok.ensures.answer)) ∙ e)

pub down-requires-clause-ease : goal.down-requires-clause-ease
down-requires-clause-ease g c =
    ap (λ (s : Turn). s.call) (took_turn c.args.seat.now c.take_at.new.self c.args.n c.args.first c.args.place c.args.face _ c.in-Ok.ensures.answer)

pub returns-in-Ok : goal.returns-in-Ok
returns-in-Ok g c =
    gets c.args.seat.now c.take_at.new.self c.down.new.self c.args.n c.args.first c.args.place c.args.face (g.V.Faced.shows c.in-Ok.v) c.down.result
    c.requires.own c.requires.idle c.in-Ok.ensures.answer c.down.ensures.notes

pub returns-in-Err : goal.returns-in-Err
returns-in-Err g c =
    loses c.args.seat.now c.take_at.new.self c.args.place c.args.face c.in-Err.field-0 c.requires.idle c.requires.turn.settled c.in-Err.ensures.answer
