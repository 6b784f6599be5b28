-- The links that were buried in a course of a worker, and whose each of them was.
use Rattle.std.specs.Prelude.{◌≡◌, List, [], ◌∷◌, map, Bool, true, false, Option, Some, None}
use Rattle.std.specs.List.{flat_map}
use Rattle.hx_base.specs.declared.numbers.ConnId.{ConnId}
use Rattle.hx_base.specs.declared.numbers.ServerNo.{ServerNo}
use Rattle.hx_base.specs.declared.numbers.SessionNo.{SessionNo}
use Rattle.hx_base.specs.declared.numbers.ThreadNo.{ThreadNo}
use Rattle.hx_link.specs.Nets.{NetState, StaysTold, TellsDial}
use Rattle.hx_link.specs.Told.{LinkState}
use Rattle.hx_connecting.specs.Sessions.{SessionNow}

-- whose link it was: a session's client's, a connection's, or a client's who wasn't admitted
pub data Owner : Type 0 where
  OfClient : ThreadNo → SessionNo → Owner
  OfConn : ServerNo → ConnId → Owner
  OfNobody : Owner

-- a link as it was buried, and whose it was
pub record Grave : Type 0 where
  pub owner : Owner
  pub link : LinkState

-- a grave of these
abbrev pub grave : Owner → LinkState → Grave
grave owner link = record { owner = owner; link = link }

-- their links
abbrev pub links_of : List Grave → List LinkState
links_of graves = map (λ g. g.link) graves

-- the net buried these links in this order, where it tells which it buried
abbrev pub AreBuried : List Grave → NetState → Type 0
AreBuried graves net = StaysTold (Some (links_of graves)) net.buried

-- the grave of a connection that was closed, where it had a link
abbrev pub conn_graves : ServerNo → ConnId → Option LinkState → List Grave
conn_graves server id None = []
conn_graves server id (Some l) = grave (OfConn server id) l ∷ []

-- that of the client of a session that is over
abbrev pub client_graves : Bool → SessionNow → List Grave
client_graves false s = []
client_graves true s = grave (OfClient s.worker s.number) s.client ∷ []

-- the session of a client's link
abbrev pub client_of : Owner → List (ThreadNo × SessionNo)
client_of (OfClient t n) = (t, n) ∷ []
client_of (OfConn server id) = []
client_of OfNobody = []

-- the sessions whose clients' links were buried, in that order
abbrev pub clients_of : List Grave → List (ThreadNo × SessionNo)
clients_of graves = flat_map (λ g. client_of g.owner) graves

-- a connection's link tells no other dial than that connection's, and a client's link tells none
abbrev pub TellsOwner : Owner → LinkState → Type 0
TellsOwner (OfConn server id) l = TellsDial server id l
TellsOwner (OfClient t n) l = l.dial ≡ None
TellsOwner OfNobody l = l.dial ≡ None
