-- The bytes of links, as a transcript tells them. A link without lines has none.
use Rattle.std.specs.Prelude.{ℕ, Bool, ◌==◌, ◌&&◌, List, [], Option, Some, None, find}
use Rattle.hx_base.specs.declared.numbers.ThreadNo.{ThreadNo}
use Rattle.hx_base.specs.declared.numbers.SessionNo.{SessionNo}
use Rattle.hx_base.specs.declared.numbers.ServerNo.{ServerNo}
use Rattle.hx_base.specs.declared.numbers.ConnId.{ConnId}
use Rattle.hx_record.specs.Tiles.{is_of}
use Rattle.hx_record.specs.declared.bytes.ClientBytes.{ClientBytes}
use Rattle.hx_record.specs.declared.bytes.ConnBytes.{ConnBytes}

-- the client of a session
abbrev pub client_of : List ClientBytes → ThreadNo → SessionNo → Option ClientBytes
client_of clients t n = find (λ (c : ClientBytes). is_of c.worker c.session t n) clients

-- what was read of a client, and what it was given
abbrev pub took_of : Option ClientBytes → List ℕ
took_of None = []
took_of (Some c) = c.took

abbrev pub gave_of : Option ClientBytes → List ℕ
gave_of None = []
gave_of (Some c) = c.gave

abbrev pub client_took : List ClientBytes → ThreadNo → SessionNo → List ℕ
client_took clients t n = took_of (client_of clients t n)

abbrev pub client_gave : List ClientBytes → ThreadNo → SessionNo → List ℕ
client_gave clients t n = gave_of (client_of clients t n)

-- the line names that connection
abbrev pub is_conn : ServerNo → ConnId → ConnBytes → Bool
is_conn server id c = (c.server.0 == server.0) && (c.id.0 == id.0)

-- the connection of that server and number
abbrev pub conn_of : List ConnBytes → ServerNo → ConnId → Option ConnBytes
conn_of conns server id = find (is_conn server id) conns

-- what was sent on a connection, and what was read of it
abbrev pub sent_on : Option ConnBytes → List ℕ
sent_on None = []
sent_on (Some c) = c.sent

abbrev pub took_on : Option ConnBytes → List ℕ
took_on None = []
took_on (Some c) = c.took

abbrev pub conn_sent : List ConnBytes → ServerNo → ConnId → List ℕ
conn_sent conns server id = sent_on (conn_of conns server id)

abbrev pub conn_took : List ConnBytes → ServerNo → ConnId → List ℕ
conn_took conns server id = took_on (conn_of conns server id)
