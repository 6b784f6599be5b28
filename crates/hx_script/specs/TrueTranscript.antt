-- When all that a transcript tells is true.
use Rattle.std.specs.Prelude.{◌≡◌, ℕ, ◌<◌, ◌≤◌, Bool, true, false, List, [], ◌∷◌, All, Contains, ⊤}
use Rattle.hx_base.specs.declared.numbers.ServerNo.{ServerNo}
use Rattle.hx_base.specs.declared.numbers.ConnId.{ConnId}
use Rattle.hx_base.specs.declared.totals.Totals.{Totals}
use Rattle.hx_pool.specs.declared.entries.Note.{Note}
use Rattle.hx_pool.specs.Table.{Closed}
use Rattle.hx_pool.specs.History.{entries_of, marks_of, table_after, IsLegal}
use Rattle.hx_pool.specs.Rules.{KeepsMode, KeepsLimit}
use Rattle.hx_pool.specs.Totals.{totals_of}
use Rattle.hx_record.specs.Carriage.{client_carriage, conn_carriage}
use Rattle.hx_record.specs.Truth.{IsTruePassed, IsTrueCut, IsTrueOwn}
use Rattle.hx_record.specs.Tiles.{is_of, TilesClient, TilesConn}
use Rattle.hx_record.specs.declared.bytes.ClientBytes.{ClientBytes}
use Rattle.hx_record.specs.declared.bytes.ConnBytes.{ConnBytes}
use Rattle.hx_record.specs.declared.served.Carried.{Carried}
use Rattle.hx_record.specs.declared.served.Kind.{Kind}
use Rattle.hx_record.specs.declared.served.Kind.TheVariants as kind
use Rattle.hx_record.specs.declared.served.Left.{Left}
use Rattle.hx_record.specs.declared.served.Served.{Served}
use Rattle.hx_record.specs.declared.served.Told.{Told}
use Rattle.hx_record.specs.declared.served.Told.TheVariants as told
use Rattle.hx_script.specs.declared.transcript.ServerPart.{ServerPart}
use Rattle.hx_script.specs.declared.transcript.Transcript.{Transcript}

-- the marks and the totals of a server are those of one legal history that keeps its rules, in which every connection
-- that was opened is closed at the end
pub record IsTrueServer (p : ServerPart) (totals : Totals) : Type 0 where
  pub history : List Note
  pub legal : IsLegal history
  pub mode : KeepsMode p.rules history
  pub limit : KeepsLimit p.rules history
  pub marks : p.marks ≡ marks_of history
  pub closed : (i : ℕ) → 1 ≤ i → i < (table_after history).next → (table_after history).conns i ≡ Closed
  pub totals_are : totals ≡ totals_of (entries_of history)

-- each server has its totals
abbrev pub AreTrueServers : List ServerPart → List Totals → Type 0
AreTrueServers [] [] = ⊤
AreTrueServers (p ∷ servers) (s ∷ totals) = IsTrueServer p s × AreTrueServers servers totals
AreTrueServers [] (s ∷ totals) = ⊥
AreTrueServers (p ∷ servers) [] = ⊥

-- the client of the record is told
pub record HasClient (t : Transcript) (s : Served) (client : ClientBytes) : Type 0 where
  pub there : Contains t.clients client
  pub worker : client.worker ≡ s.worker
  pub session : client.session ≡ s.session

-- the connection of the exchange is told
pub record HasConn (t : Transcript) (c : Carried) (conn : ConnBytes) : Type 0 where
  pub there : Contains t.conns conn
  pub server : conn.server ≡ c.server
  pub id : conn.id ≡ c.id

-- the session of the record left for a cause
abbrev pub LeftFor : Transcript → Served → Left → Type 0
LeftFor t s l = Contains t.records (told.Left l) × (is_of s.worker s.session l.worker l.session ≡ true)

-- which connections' links told their end
abbrev pub Ends : Type 0
Ends = ServerNo → ConnId → Bool

-- a record of each kind is true of the links that are told
abbrev pub IsTrueKind : Transcript → Ends → Served → Kind → Type 0
IsTrueKind t ends s (kind.Passed c) =
    (client : ClientBytes) × HasClient t s client × (conn : ConnBytes) × HasConn t c conn
    × IsTruePassed s c (client_carriage client false) (conn_carriage conn (ends c.server c.id))
IsTrueKind t ends s (kind.Cut c why) =
    (client : ClientBytes) × HasClient t s client × (conn : ConnBytes) × HasConn t c conn
    × IsTrueCut s c why (client_carriage client false) (conn_carriage conn (ends c.server c.id))
IsTrueKind t ends s (kind.Own status) =
    (client : ClientBytes) × HasClient t s client × (l : Left) × LeftFor t s l
    × IsTrueOwn s status (client_carriage client false) l.cause

-- a line of the records is true
abbrev pub IsTrueRecord : Transcript → Ends → Told → Type 0
IsTrueRecord t ends (told.Served s) = IsTrueKind t ends s s.kind
IsTrueRecord t ends (told.Left l) = ⊤

-- every server's history, every record and every range is true
pub record IsTrueTranscript (t : Transcript) (ends : Ends) : Type 0 where
  pub servers : AreTrueServers t.servers t.totals
  pub records : All (IsTrueRecord t ends) t.records
  pub clients : All (TilesClient t.records) t.clients
  pub conns : All (TilesConn t.records) t.conns
