use Rattle.std.proofs.Common.{◌≡◌, None}
use Rattle.hx_message_tests.proofs.tests.connections.a_connection_rests_up_to_65535_uses.Given as goal

abbrev pub invariant-loop : goal.invariant-loop
invariant-loop g l = record {
  sent : l.idle.link.sent ≡ None;
  taken : l.idle.link.taken ≡ None;
}
