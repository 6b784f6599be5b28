-- What a transcript tells of the links that a net has buried.
use Rattle.std.specs.Prelude.{◌≡◌, false, List, length, map, All, Some, IsSome}
use Rattle.std.specs.List.Sorted.{IsPermutation}
use Rattle.hx_link.specs.MemoryLinks.{MemoryLinkNow, state_of}
use Rattle.hx_link.specs.MemoryNets.{MemoryNetNow}
use Rattle.hx_record.specs.declared.bytes.ClientBytes.{ClientBytes}
use Rattle.hx_record.specs.declared.bytes.ConnBytes.{ConnBytes}
use Rattle.hx_record.specs.declared.served.Told.{Told}
use Rattle.hx_told.specs.Links.{TellsBytes, lefts_of, client_links, clients_of, conns_of}

-- no memory was wanting: the net tells its dials and all links that were buried, each with its bytes
pub record KeptAll (net : MemoryNetNow) (links : List MemoryLinkNow) : Type 0 where
  pub fed : net.starved ≡ false
  pub dials : IsSome net.state.dials
  pub links_are : net.links ≡ Some links
  pub buried : net.state.buried ≡ Some (map state_of links)
  pub bytes : All TellsBytes links

-- each session that ended has its client: the one whose link was buried at the same place among the clients' links. Each
-- link that was dialled has its connection. No others are told
pub record TellsLinks (records : List Told) (net : MemoryNetNow) (clients : List ClientBytes) (conns : List ConnBytes) : Type 0 where
  pub links : List MemoryLinkNow
  pub kept : KeptAll net links
  pub each : length (client_links links) ≡ length (lefts_of records)
  pub clients_are : IsPermutation (clients_of (lefts_of records) (client_links links)) clients
  pub conns_are : IsPermutation (conns_of links) conns
