use Rattle.std.proofs.Common.{◌≡◌, refl, sym, ap, ◌∙◌, subst}
use Rattle.hx_places.specs.Asks.{MayTry}
use Rattle.hx_places.specs.Turns.{Turn}
use Rattle.hx_places_load.proofs.Noting.{rests_from}
use Rattle.hx_places_load.proofs.Taking.{takes, taken_due, down_rests}
use Rattle.hx_places_load.proofs.steps.take_back.Goals as goal

pub take_at-requires-clause-turn : goal.take_at-requires-clause-turn
take_at-requires-clause-turn c = let r = c.requires.due in record {
  settled = ap (λ (z : Turn). z.due) r.turn_is;
  try_ = subst (λ k. MayTry k c.args.place c.args.face) (sym (ap (λ (z : Turn). z.call) r.turn_is)) (refl, refl);
}

pub down-requires-clause-due : goal.down-requires-clause-due
down-requires-clause-due c = let r = c.requires.due in
    taken_due c.take_at.new.self _ (takes c.args.seat.now c.take_at.new.self _ _ c.args.place c.args.face _ c.in-Ok.ensures.answer refl r.idle r.ours)

pub down-requires-clause-ease : goal.down-requires-clause-ease
down-requires-clause-ease c = let r = c.requires.due in
    ap (λ (z : Turn). z.call) (takes c.args.seat.now c.take_at.new.self _ _ c.args.place c.args.face _ c.in-Ok.ensures.answer refl r.idle r.ours).turn_is

pub returns-in-Ok-clause-rest : goal.returns-in-Ok-clause-rest
returns-in-Ok-clause-rest c = let r = c.requires.due in
    (down_rests c.take_at.new.self c.down.new.self _ c.down.result (takes c.args.seat.now c.take_at.new.self _ _ c.args.place c.args.face _ c.in-Ok.ensures.answer refl r.idle r.ours) c.down.ensures.notes).0

pub returns-in-Ok-clause-has : goal.returns-in-Ok-clause-has
returns-in-Ok-clause-has c = let r = c.requires.due in
    (down_rests c.take_at.new.self c.down.new.self _ c.down.result (takes c.args.seat.now c.take_at.new.self _ _ c.args.place c.args.face _ c.in-Ok.ensures.answer refl r.idle r.ours) c.down.ensures.notes).1

pub returns-in-Err-clause-rest : goal.returns-in-Err-clause-rest
returns-in-Err-clause-rest c = let r = c.requires.due in
    rests_from c.args.seat.now c.take_at.new.self _ _ c.in-Err.ensures.answer.notes r.turn_is r.idle r.ours refl
