use Rattle.std.proofs.Common.{refl}
use Rattle.hx_pool_tests.proofs.RowCalls.{owner_steps, told_steps}
use Rattle.hx_pool_tests.proofs.tests.rows.Owner.tell.Goals as goal

pub returns-clause-other : goal.returns-clause-other
returns-clause-other c = owner_steps c.args.other.now.seat c.tell.new.other c.args.other.now.row _ c.requires.other
    (told_steps c.args.self.now.seat c.args.other.now.seat c.tell.new.other c.tell.ensures.told) tt refl
