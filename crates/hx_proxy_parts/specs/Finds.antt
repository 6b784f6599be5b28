-- Private: what a look at listening sockets finds.
use Rattle.std.specs.Prelude.{⊤}
use Rattle.hx_doors.specs.Doors.{IsClient}
use Rattle.hx_proxy_parts.specs.declared.sock_door.Found.{Found}
use Rattle.hx_proxy_parts.specs.declared.sock_door.Found.TheVariants as found

-- a client that was found is new
abbrev pub FoundClient : Found → Type 0
FoundClient (found.Client front link) = IsClient link
FoundClient found.Nothing = ⊤
FoundClient found.Failed = ⊤
