use Rattle.hx_caretaker.proofs.DrainLemmas.{drains_start, drains_on, drains_done, draining_still}
use Rattle.hx_caretaker.proofs.sweep.drain_all.Goals as goal

pub loop-count-init : goal.loop-count-init
loop-count-init g c = drains_start _ c.requires

pub drain_one-requires : goal.drain_one-requires
drain_one-requires g c = draining_still _ _ _ c.requires c.loop-count.invariant

pub loop-count-preserved : goal.loop-count-preserved
loop-count-preserved g c = drains_on _ _ _ _ c.loop-count.invariant (c.drain_one.ensures.took c.loop-count-test.true)

pub returns : goal.returns
returns g c = drains_done _ _ _ _ c.loop-count.invariant (c.drain_one.ensures.none c.loop-count-test.false)
