use Rattle.std.proofs.Common.{map}
use Rattle.hx_config.specs.Views.{meaning}
use Rattle.hx_session_tests.proofs.Benches.{may_step, stopped_off, buried_off}
use Rattle.hx_session_tests.proofs.tests.bench.go_through.Goals as goal

pub stop-served-requires-clause-holds : goal.stop-served-requires-clause-holds
stop-served-requires-clause-holds g c =
    (may_step (meaning c.args.config.now) (map g.S.HasHistory.history c.loop-now.seats) c.loop-now.turns c.loop-now.net.state c.loop-now.session c.loop-now.invariant).holds

pub returns-in-Ok : goal.returns-in-Ok
returns-in-Ok g c =
    let config = meaning c.args.config.now in let h = g.S.HasHistory.history in let e = c.stop-served.ensures in
    let client = c.stop-served.result.client.state in let stop = c.stop-served.new in record {
      empty = buried_off config (map h stop.seats) c.loop-now.turns stop.net.state c.bury-2.new.self.state client
          (stopped_off config (map h c.loop-now.seats) (map h stop.seats) c.loop-now.turns c.loop-now.net.state stop.net.state c.loop-now.session client
          (record { served = c.stop-served.result.served; left = c.stop-served.result.left }) c.loop-now.invariant
          (record { stops = e.stops; tells = e.tells; adds = e.adds; links = e.links }))
          c.bury-2.ensures.buries;
    }
