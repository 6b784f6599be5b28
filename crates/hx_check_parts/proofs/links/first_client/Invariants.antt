use Rattle.std.proofs.Common.{◌≡◌, drop}
use Rattle.hx_check_parts.specs.Links.{client_of}
use Rattle.hx_check_parts.proofs.links.first_client.Given as goal

abbrev pub invariant-loop-client : goal.invariant-loop-client
invariant-loop-client l = client_of (drop l.client-index l.clients) l.t l.n ≡ client_of l.clients l.t l.n
