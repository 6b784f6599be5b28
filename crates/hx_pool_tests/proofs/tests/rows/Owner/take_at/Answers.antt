use Rattle.std.proofs.Common.{sym, ap, ◌∙◌, refl}
use Rattle.hx_places.specs.Turns.{Turn}
use Rattle.hx_rows.proofs.Taking.{taken_due, took_turn}
use Rattle.hx_pool_tests.proofs.RowCalls.{owner_note, owner_steps, took_steps}
use Rattle.hx_pool_tests.proofs.tests.rows.Owner.take_at.Goals as goal

pub down-requires-clause-due : goal.down-requires-clause-due
down-requires-clause-due c = λ e. taken_due
    (sym (ap (λ (s : Turn). s.due) (took_turn c.args.self.now.seat c.take_at.new.self _ _ c.args.place c.args.face _ c.in-Ok.ensures.answer)) ∙ e)

pub down-requires-clause-ease : goal.down-requires-clause-ease
down-requires-clause-ease c = ap (λ (s : Turn). s.call) (took_turn c.args.self.now.seat c.take_at.new.self _ _ c.args.place c.args.face _ c.in-Ok.ensures.answer)

pub returns-in-Ok-clause-owner : goal.returns-in-Ok-clause-owner
returns-in-Ok-clause-owner c = owner_steps c.args.self.now.seat c.down.new.self c.args.self.now.row _ c.requires.owner
    (took_steps c.args.self.now.seat c.take_at.new.self c.down.new.self _ _ c.args.place c.args.face _ c.down.result c.in-Ok.ensures.answer c.down.ensures.notes) (tt, (tt, (tt, tt))) refl

pub returns-in-Err-clause-owner : goal.returns-in-Err-clause-owner
returns-in-Err-clause-owner c = owner_note c.args.self.now.seat c.take_at.new.self c.args.self.now.row _ c.requires.owner c.in-Err.ensures.answer.notes (tt, tt) refl
