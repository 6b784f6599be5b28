use Rattle.std.proofs.Common.{◌≡◌}
use Rattle.hx_lockboard.proofs.desk.LockDesk.get.Given as goal

abbrev pub invariant-loop : goal.invariant-loop
invariant-loop g l = record {
  can : (goal.iterator-loop g).can_next l.iterator';
  ends : (goal.iterator-loop g).is_finite l.iterator';
  shared : l.self-inside.shared ≡ l.initial.self-inside.shared;
  table : l.self-inside.token.table_id ≡ l.initial.self-inside.token.table_id;
  me : l.self-inside.token.me ≡ l.initial.self-inside.token.me;
}
