-- What is told of the links that were buried: clients' and connections'.
use Rattle.std.specs.Prelude.{◌≡◌, ℕ, Bool, true, false, List, [], ◌∷◌, ◌++◌, length, Option, Some, None, slice_get}
use Rattle.std.specs.List.{flat_map, filter, filter_map}
use Rattle.hx_link.specs.MemoryLinks.{MemoryLinkNow, KeepsPlan}
use Rattle.hx_link.specs.Told.{IsCounted}
use Rattle.hx_record.specs.declared.bytes.ClientBytes.{ClientBytes}
use Rattle.hx_record.specs.declared.bytes.ConnBytes.{ConnBytes}
use Rattle.hx_record.specs.declared.served.Left.{Left}
use Rattle.hx_record.specs.declared.served.Told.{Told}
use Rattle.hx_record.specs.declared.served.Told.TheVariants as told

-- the end of a session, where the record tells one
abbrev pub left_of : Told → Option Left
left_of (told.Served s) = None
left_of (told.Left l) = Some l

-- the ends of sessions, in order
abbrev pub lefts_of : List Told → List Left
lefts_of records = filter_map left_of records

-- no dial gave the link, so that it is a client's
abbrev pub is_undialled : Option (ℕ × ℕ) → Bool
is_undialled None = true
is_undialled (Some d) = false

-- a client's link
abbrev pub is_client : MemoryLinkNow → Bool
is_client m = is_undialled m.state.dial

-- the clients' links, in order
abbrev pub client_links : List MemoryLinkNow → List MemoryLinkNow
client_links links = filter is_client links

-- the bytes that a link tells; a link in memory always does
abbrev pub bytes_told : Option (List ℕ) → List ℕ
bytes_told None = []
bytes_told (Some bytes) = bytes

-- the link tells its bytes, as many as it counts, and what was taken of it are the first bytes of its plan
pub record TellsBytes (m : MemoryLinkNow) : Type 0 where
  pub taken : m.state.taken ≡ Some (bytes_told m.state.taken)
  pub sent : m.state.sent ≡ Some (bytes_told m.state.sent)
  pub counted : IsCounted m.state
  pub keeps : KeepsPlan m

-- the client whose session ended so, with the bytes of its link
abbrev pub client_of : Left → MemoryLinkNow → ClientBytes
client_of l m = record {
  worker = l.worker;
  session = l.session;
  took = bytes_told m.state.taken;
  gave = bytes_told m.state.sent;
}

-- each session that ended with the client's link at the same place
abbrev pub clients_of : List Left → List MemoryLinkNow → List ClientBytes
clients_of [] links = []
clients_of (l ∷ lefts) [] = []
clients_of (l ∷ lefts) (m ∷ links) = client_of l m ∷ clients_of lefts links

-- the connection of a dial's server and id, with the bytes of its link
abbrev pub conn_of : ℕ × ℕ → MemoryLinkNow → ConnBytes
conn_of d m = record {
  server = record { 0 = d.0 };
  id = record { 0 = d.1 };
  sent = bytes_told m.state.sent;
  took = bytes_told m.state.taken;
}

-- none for a client's link
abbrev pub conns_by : Option (ℕ × ℕ) → MemoryLinkNow → List ConnBytes
conns_by None m = []
conns_by (Some d) m = conn_of d m ∷ []

-- the connection of each link that was dialled, in order
abbrev pub conns_of : List MemoryLinkNow → List ConnBytes
conns_of links = flat_map (λ (m : MemoryLinkNow). conns_by m.state.dial m) links

-- the link adds the client of the next session that ended, or none where it was dialled
abbrev pub AddsClient : Option (ℕ × ℕ) → List Left → List ClientBytes → MemoryLinkNow → List ClientBytes → Type 0
AddsClient None lefts old m new = (l : Left) × (slice_get lefts (length old) ≡ Some l) × (new ≡ old ++ client_of l m ∷ [])
AddsClient (Some d) lefts old m new = new ≡ old
