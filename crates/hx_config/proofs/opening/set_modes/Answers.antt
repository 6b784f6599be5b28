use Rattle.hx_config.proofs.Finishing.{one_mode}
use Rattle.hx_config.proofs.opening.set_modes.Goals as goal

pub loop-server-preserved : goal.loop-server-preserved
loop-server-preserved c =
    one_mode c.args.mode c.loop-server.servers c.args.servers.now c.loop-server.server-index c.server-item.result c.loop-server-test.true c.loop-server.invariant
