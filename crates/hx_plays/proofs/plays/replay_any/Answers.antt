use Rattle.std.proofs.Common.{arith}
use Rattle.hx_script_parts.specs.Views.{meaning}
use Rattle.hx_plays.proofs.PlayLemmas.{runs_play}
use Rattle.hx_plays.proofs.plays.replay_any.Goals as goal

pub returns-else-script-gt1 : goal.returns-else-script-gt1
returns-else-script-gt1 c =
    let few = c.if-script-gt1.false in
    let threads = c.in-Ok.script.config.within.threads_in.0 in
    runs_play c.args.bytes.now (meaning c.in-Ok.script) c.most_turns-most.result c.replay_script.result c.in-Ok.ensures.reads (omega (arith, few, threads)) c.most_turns-most.ensures c.replay_script.ensures
