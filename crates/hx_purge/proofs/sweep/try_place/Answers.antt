use Rattle.std.proofs.Common.{sym, ap, ◌∙◌, false}
use Rattle.hx_pool.specs.declared.entries.Found.TheVariants.{Resting}
use Rattle.hx_pool.specs.Causes.{caretaker}
use Rattle.hx_places.specs.Turns.{Turn}
use Rattle.hx_rows.proofs.Taking.{taken_due, took_turn}
use Rattle.hx_takeover.proofs.Trying.{rest_turn, look_rest, took_rest}
use Rattle.hx_purge.proofs.Sweeping.{misses_other, misses_lost, care_may, takes}
use Rattle.hx_purge.proofs.sweep.try_place.Goals as goal

pub returns-in_default : goal.returns-in_default
returns-in_default g c = record {
  answer = misses_other c.args.seat.now c.look.new.self c.args.place c.look.result c.look.ensures.notes (λ f e. c.in_default.not-Resting f e);
  rest = look_rest c.args.seat.now c.look.new.self c.args.place c.look.result c.look.ensures.notes c.requires.rest;
}

pub take_at-requires-clause-takes : goal.take_at-requires-clause-takes
take_at-requires-clause-takes g c = care_may c.args.seat.now c.look.new.self c.args.place c.in-Resting.face c.in-Resting.ensures.notes

pub take_at-requires-clause-turn : goal.take_at-requires-clause-turn
take_at-requires-clause-turn g c = rest_turn c.look.new.self c.args.place c.in-Resting.face
    (look_rest c.args.seat.now c.look.new.self c.args.place (Resting c.in-Resting.face) c.in-Resting.ensures.notes c.requires.rest)

pub down-requires-clause-due : goal.down-requires-clause-due
down-requires-clause-due g c = λ e. taken_due
    (sym (ap (λ (s : Turn). s.due) (took_turn c.look.new.self c.take_at.new.self caretaker false c.args.place c.in-Resting.face _ c.in-Ok.ensures.answer)) ∙ e)

pub down-requires-clause-ease : goal.down-requires-clause-ease
down-requires-clause-ease g c =
    ap (λ (s : Turn). s.call) (took_turn c.look.new.self c.take_at.new.self caretaker false c.args.place c.in-Resting.face _ c.in-Ok.ensures.answer)

pub returns-in-Ok-clause-answer : goal.returns-in-Ok-clause-answer
returns-in-Ok-clause-answer g c =
    takes c.args.seat.now c.look.new.self c.take_at.new.self c.down.new.self c.args.place c.in-Resting.face (g.V.Faced.shows c.in-Ok.v) c.down.result
    c.in-Resting.ensures.notes c.in-Ok.ensures.answer c.down.ensures.notes

pub returns-in-Ok-clause-rest : goal.returns-in-Ok-clause-rest
returns-in-Ok-clause-rest g c =
    took_rest c.look.new.self c.take_at.new.self c.down.new.self caretaker false c.args.place c.in-Resting.face (g.V.Faced.shows c.in-Ok.v) c.down.result c.in-Ok.ensures.answer c.down.ensures.notes
    (look_rest c.args.seat.now c.look.new.self c.args.place (Resting c.in-Resting.face) c.in-Resting.ensures.notes c.requires.rest).idle

pub returns-in-Err-clause-answer : goal.returns-in-Err-clause-answer
returns-in-Err-clause-answer g c =
    misses_lost c.args.seat.now c.look.new.self c.take_at.new.self c.args.place c.in-Resting.face c.in-Err.field-0 c.in-Resting.ensures.notes c.in-Err.ensures.answer.notes c.in-Err.ensures.answer.other

pub returns-in-Err-clause-rest : goal.returns-in-Err-clause-rest
returns-in-Err-clause-rest g c = look_rest c.look.new.self c.take_at.new.self c.args.place c.in-Err.field-0 c.in-Err.ensures.answer.notes
    (look_rest c.args.seat.now c.look.new.self c.args.place (Resting c.in-Resting.face) c.in-Resting.ensures.notes c.requires.rest)
