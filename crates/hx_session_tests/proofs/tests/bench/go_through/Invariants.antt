use Rattle.std.proofs.Common.{map}
use Rattle.hx_config.specs.Views.{meaning}
use Rattle.hx_session_tests.specs.Benches.{IsVisit}
use Rattle.hx_session_tests.proofs.tests.bench.go_through.Given as goal

abbrev pub invariant-loop-now : goal.invariant-loop-now
invariant-loop-now g l = IsVisit (meaning l.fn.config) (map g.S.HasHistory.history l.seats) l.turns l.net.state l.session
