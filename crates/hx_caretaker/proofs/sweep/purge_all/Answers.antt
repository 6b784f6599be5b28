use Rattle.hx_caretaker.proofs.PurgeLemmas.{purges_start, purges_on, purges_done}
use Rattle.hx_caretaker.proofs.sweep.purge_all.Goals as goal

pub loop-left-init : goal.loop-left-init
loop-left-init g c = purges_start _ c.args.quota c.requires.one c.requires.stands

pub loop-left-preserved : goal.loop-left-preserved
loop-left-preserved g c = purges_on _ _ _ _ _ _ _ c.loop-left.invariant (c.purge_one.ensures.took c.loop-left-test.true)

pub returns : goal.returns
returns g c = purges_done _ _ _ _ _ _ c.loop-left.invariant (c.purge_one.ensures.none c.loop-left-test.false)
