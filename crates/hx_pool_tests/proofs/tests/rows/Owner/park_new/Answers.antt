use Rattle.std.proofs.Common.{◌∙◌, refl}
use Rattle.hx_pool_tests.proofs.RowCalls.{about_note, owner_note, note_has}
use Rattle.hx_pool_tests.proofs.tests.rows.Owner.park_new.Goals as goal

pub let_rest-requires-clause-owner : goal.let_rest-requires-clause-owner
let_rest-requires-clause-owner c = owner_note c.args.self.now.seat c.draw-id.new.self c.args.self.now.row _ c.requires.owner c.draw-id.ensures.notes (tt, tt) refl

pub let_rest-requires-clause-has : goal.let_rest-requires-clause-has
let_rest-requires-clause-has c = note_has c.args.self.now.seat c.draw-id.new.self _ _ c.draw-id.result c.draw-id.ensures.notes

pub returns-clause-about : goal.returns-clause-about
returns-clause-about c = c.let_rest.ensures.about ∙ about_note c.args.self.now.seat c.draw-id.new.self _ c.draw-id.ensures.notes
