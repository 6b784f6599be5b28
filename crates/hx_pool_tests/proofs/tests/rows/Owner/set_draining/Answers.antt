use Rattle.std.proofs.Common.{refl}
use Rattle.hx_pool_tests.proofs.RowCalls.{owner_note}
use Rattle.hx_pool_tests.proofs.tests.rows.Owner.set_draining.Goals as goal

pub returns-clause-owner : goal.returns-clause-owner
returns-clause-owner c = owner_note c.args.self.now.seat c.set_gate.new.self c.args.self.now.row _ c.requires.owner c.set_gate.ensures.notes (tt, tt) refl
