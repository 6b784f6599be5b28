use Rattle.std.proofs.Common.{sym, ◌∙◌}
use Rattle.hx_config.proofs.Finishing.{idle_here, busy_here, none_idle}
use Rattle.hx_config.proofs.finish.serve_all.Goals as goal

pub returns-then-is_idle : goal.returns-then-is_idle
returns-then-is_idle c =
    idle_here c.args.fronts.now c.args.backs.now c.loop-i.i c.index-backs-i.result _ c.loop-i-test.true c.index-backs-i.is
    (sym c.is_idle.ensures ∙ c.if-is_idle.true) c.loop-i.invariant

pub loop-i-preserved : goal.loop-i-preserved
loop-i-preserved c =
    busy_here c.args.fronts.now c.args.backs.now c.loop-i.i c.index-backs-i.result _ c.loop-i-test.true c.index-backs-i.is
    (sym c.is_idle.ensures ∙ c.if-is_idle.false) c.loop-i.invariant

pub returns : goal.returns
returns c = none_idle c.args.fronts.now c.args.backs.now c.loop-i.i _ c.loop-i-test.false c.loop-i.invariant
