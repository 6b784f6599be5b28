use Rattle.std.proofs.Common.{◌≡◌, ◌++◌, All}
use Rattle.hx_told.specs.Links.{TellsBytes, conns_of}
use Rattle.hx_told.proofs.Clients.{HasClients}
use Rattle.hx_told.proofs.links.tell_links.Given as goal

abbrev pub invariant-loop-link : goal.invariant-loop-link
invariant-loop-link l = record {
  clients : HasClients l.lefts l.fn.links.items l.link-iterator.rest.items l.told.clients.items;
  bytes : All TellsBytes l.link-iterator.rest.items → All TellsBytes l.fn.links.items;
  conns : conns_of l.fn.links.items ≡ l.told.conns.items ++ conns_of l.link-iterator.rest.items;
}
