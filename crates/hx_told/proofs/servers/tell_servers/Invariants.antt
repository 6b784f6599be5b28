use Rattle.std.proofs.Common.{◌≡◌, ◌≤◌, ◌++◌, All, drop, length, take}
use Rattle.hx_script.specs.PrintedForm.{IsToldServer}
use Rattle.hx_told.specs.Servers.{HasNames, IsWhole, parts_of}
use Rattle.hx_told.proofs.servers.tell_servers.Given as goal

abbrev pub invariant-loop-named : goal.invariant-loop-named
invariant-loop-named g l = record {
  so_far : parts_of l.fn.names.items l.seats ≡ l.parts.items ++ parts_of l.named-iterator.rest.items (drop (length l.parts.items) l.seats);
  within : length l.parts.items ≤ length l.seats;
  whole : All IsWhole (take (length l.parts.items) l.seats);
  told : All IsToldServer l.parts.items;
  names : All HasNames l.named-iterator.rest.items;
}
