use Rattle.std.proofs.Common.{map}
use Rattle.hx_config.specs.Views.{meaning}
use Rattle.hx_session_tests.specs.Benches.{IsEmpty}
use Rattle.hx_session_tests.proofs.tests.play.visit_all.Given as goal

abbrev pub invariant-loop-line : goal.invariant-loop-line
invariant-loop-line g l = IsEmpty (meaning l.fn.config) (map g.S.HasHistory.history l.seats) l.turns l.net.state
