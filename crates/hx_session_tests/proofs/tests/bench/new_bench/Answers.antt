use Rattle.std.proofs.Common.{map, ap}
use Rattle.hx_config.specs.Views.{meaning}
use Rattle.hx_link.specs.MemoryNets.{MemoryNetNow}
use Rattle.hx_pool.specs.Journal.{Journal}
use Rattle.hx_session_tests.proofs.Benches.{begins_empty}
use Rattle.hx_session_tests.proofs.tests.bench.new_bench.Goals as goal

pub returns : goal.returns
returns c = record {
  empty = begins_empty (meaning c.args.config.now) (map (λ (j : Journal). j.history) c.in-Ok-seats_of.seats.items) c.in-Ok-new_turns.turns.items c.in-Ok.net.state
      c.in-Ok-seats_of.ensures.begin c.in-Ok-new_turns.ensures.turns (ap (λ (n : MemoryNetNow). n.state.loop_no) c.in-Ok.ensures.begins);
}
