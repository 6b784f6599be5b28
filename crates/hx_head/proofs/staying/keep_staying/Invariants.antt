use Rattle.std.proofs.Common.{◌≡◌, ◌≤◌, take, filter}
use Rattle.hx_head.specs.Staying.{stays_in}
use Rattle.hx_head.proofs.staying.keep_staying.Given as goal

abbrev pub invariant-loop-i : goal.invariant-loop-i
invariant-loop-i l = record {
  few : l.count ≤ l.i;
  kept : take l.count l.kept ≡ filter (stays_in l.bytes l.fields) (take l.i l.fields);
}
