-- The text of what was read so far, and what holds of it.
use Rattle.std.proofs.Common.{◌≡◌, ℕ, ◌<◌, true, List, [], ◌++◌, All, length, Option, Some, None}
use Rattle.std.specs.Prelude.{codes, ⊤}
use Rattle.std.specs.List.{flat_map}
use Rattle.hx_base.specs.declared.totals.Totals.{Totals}
use Rattle.hx_record.specs.declared.bytes.ClientBytes.{ClientBytes}
use Rattle.hx_record.specs.declared.bytes.ConnBytes.{ConnBytes}
use Rattle.hx_record.specs.declared.served.Told.{Told}
use Rattle.hx_script.specs.declared.transcript.ServerPart.{ServerPart}
use Rattle.hx_script.specs.LinkLines.{client_lines, conn_lines, totals_lines}
use Rattle.hx_script.specs.MarkLines.{who, server_lines}
use Rattle.hx_script.specs.Printed.{first_line}
use Rattle.hx_script.specs.PrintedForm.{IsToldRecord, Rises, ClientBefore, ConnBefore, HasPrintedForm}
use Rattle.hx_script.specs.RecordLines.{record_line, conn_text}
use Rattle.hx_script_parts.specs.ByteText.{quoted}
use Rattle.hx_transcripts_parts.specs.ReadBack.{AreNamed}
use Rattle.hx_transcripts.specs.declared.reading.HalfClient.{HalfClient}
use Rattle.hx_transcripts.specs.declared.reading.HalfConn.{HalfConn}
use Rattle.hx_transcripts.specs.declared.reading.Parts.{Parts}
use Rattle.hx_transcripts.specs.declared.reading.Reading.{Reading}
use Rattle.hx_transcripts.specs.declared.reading.Reading.TheVariants as reading
use Rattle.hx_transcripts.specs.Servers.{closed}
use Rattle.hx_transcripts.specs.Links.{follows_clients, follows_conns}

-- ---- texts

abbrev pub servers_told : List ServerPart → List ℕ
servers_told servers = first_line ++ flat_map server_lines servers

abbrev pub records_told : List ServerPart → List Told → List ℕ
records_told servers records = servers_told servers ++ (codes "records\n" ++ flat_map (record_line servers) records)

abbrev pub clients_told : List ServerPart → List Told → List ClientBytes → List ℕ
clients_told servers records clients = records_told servers records ++ (codes "links\n" ++ flat_map client_lines clients)

abbrev pub conns_told : List ServerPart → List Told → List ClientBytes → List ConnBytes → List ℕ
conns_told servers records clients conns = clients_told servers records clients ++ flat_map (conn_lines servers) conns

abbrev pub totals_told : List ServerPart → List Told → List ClientBytes → List ConnBytes → List Totals → List ℕ
totals_told servers records clients conns totals =
    conns_told servers records clients conns ++ (codes "totals\n" ++ totals_lines servers totals)

-- the line of what was taken of a client
abbrev pub half_client : Option HalfClient → List ℕ
half_client None = []
half_client (Some h) = codes "client " ++ who h.worker h.session ++ codes " took " ++ quoted h.took ++ codes "\n"

-- the line of what was sent on a connection
abbrev pub half_conn : List ServerPart → Option HalfConn → List ℕ
half_conn servers None = []
half_conn servers (Some h) = codes "conn " ++ conn_text servers h.server h.id ++ codes " sent " ++ quoted h.sent ++ codes "\n"

abbrev pub whole_told : Parts → List ℕ
whole_told p = totals_told p.servers p.records p.clients p.conns p.totals ++ codes "end\n"

abbrev pub told : Reading → List ℕ
told (reading.Servers r) = servers_told (closed r.done r.current)
told (reading.Records r) = records_told r.servers r.records
told (reading.Clients r) = clients_told r.servers r.records r.clients ++ half_client r.half
told (reading.Conns r) = conns_told r.servers r.records r.clients r.conns ++ half_conn r.servers r.half
told (reading.Totals r) = totals_told r.servers r.records r.clients r.conns r.totals
told (reading.Over p) = whole_told p

-- ---- what holds

pub record RecordsHold (servers : List ServerPart) (records : List Told) : Type 0 where
  pub named : AreNamed servers
  pub each : All (IsToldRecord (length servers)) records

pub record ClientsHold (servers : List ServerPart) (records : List Told) (clients : List ClientBytes) : Type 0 where
  pub before : RecordsHold servers records
  pub rise : Rises ClientBefore clients

pub record ConnsHold (servers : List ServerPart) (records : List Told) (clients : List ClientBytes) (conns : List ConnBytes) : Type 0 where
  pub before : ClientsHold servers records clients
  pub rise : Rises ConnBefore conns
  pub named : All (λ (c : ConnBytes). c.server.0 < length servers) conns

abbrev pub HalfClientHolds : List ClientBytes → Option HalfClient → Type 0
HalfClientHolds clients None = ⊤
HalfClientHolds clients (Some h) = follows_clients clients h.worker h.session ≡ true

abbrev pub HalfConnHolds : List ServerPart → List ConnBytes → Option HalfConn → Type 0
HalfConnHolds servers conns None = ⊤
HalfConnHolds servers conns (Some h) = (follows_conns conns h.server h.id ≡ true) × (h.server.0 < length servers)

abbrev pub IsGood : Reading → Type 0
IsGood (reading.Servers r) = AreNamed (closed r.done r.current)
IsGood (reading.Records r) = RecordsHold r.servers r.records
IsGood (reading.Clients r) = ClientsHold r.servers r.records r.clients × HalfClientHolds r.clients r.half
IsGood (reading.Conns r) = ConnsHold r.servers r.records r.clients r.conns × HalfConnHolds r.servers r.conns r.half
IsGood (reading.Totals r) = ConnsHold r.servers r.records r.clients r.conns
IsGood (reading.Over p) = HasPrintedForm p.servers p.records p.clients p.conns p.totals

-- what was read now is told behind what was read before
pub record Adds (r : Reading) (line : List ℕ) (s : Reading) : Type 0 where
  pub good : IsGood s
  pub text : told s ≡ told r ++ line
