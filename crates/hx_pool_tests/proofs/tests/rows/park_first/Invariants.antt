use Rattle.hx_pool_tests.specs.Owners.{IsOwner}
use Rattle.hx_pool_tests.proofs.tests.rows.park_first.Given as goal

abbrev pub invariant-loop-number : goal.invariant-loop-number
invariant-loop-number l = IsOwner l.a.seat l.a.row
