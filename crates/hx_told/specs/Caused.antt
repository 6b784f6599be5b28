-- Why each record of a transcript was told, by its script: its lines, its moments, and the bytes of the links that are told.
use Rattle.std.specs.Prelude.{◌≡◌, ℕ, List, ◌++◌, Contains, Some}
use Rattle.hx_base.specs.declared.numbers.ConnId.{ConnId}
use Rattle.hx_base.specs.declared.numbers.ServerNo.{ServerNo}
use Rattle.hx_base.specs.declared.numbers.SessionNo.{SessionNo}
use Rattle.hx_base.specs.declared.numbers.ThreadNo.{ThreadNo}
use Rattle.hx_causes.specs.Causes.{CausedLine, scope}
use Rattle.hx_link.specs.Told.{LinkState}
use Rattle.hx_record.specs.declared.bytes.ClientBytes.{ClientBytes}
use Rattle.hx_record.specs.declared.bytes.ConnBytes.{ConnBytes}
use Rattle.hx_record.specs.declared.served.Told.{Told}
use Rattle.hx_run.specs.Dues.{ComeInOrder}
use Rattle.hx_script.specs.TrueTranscript.{Ends}
use Rattle.hx_script.specs.declared.transcript.Transcript.{Transcript}
use Rattle.hx_script_parts.specs.Meaning.{Meaning}
use Rattle.hx_script_parts.specs.declared.script.ClientLine.{ClientLine}

-- a client's link as it stood in a call of its session: that session's client is told, and what the link had carried by then are the
-- first bytes of what is told
pub record IsToldClient (clients : List ClientBytes) (t : ThreadNo) (n : SessionNo) (l : LinkState) : Type 0 where
  pub client : ClientBytes
  pub there : Contains clients client
  pub worker : client.worker ≡ t
  pub session : client.session ≡ n
  pub taken : (bytes : List ℕ) × (more : List ℕ) × (l.taken ≡ Some bytes) × (client.took ≡ bytes ++ more)
  pub sent : (bytes : List ℕ) × (more : List ℕ) × (l.sent ≡ Some bytes) × (client.gave ≡ bytes ++ more)

-- the link of a connection as it was buried: that connection is told, with all bytes that the link carried, and counts as ended just where
-- the link told its end
pub record IsToldConn (conns : List ConnBytes) (ends : Ends) (server : ServerNo) (id : ConnId) (l : LinkState) : Type 0 where
  pub conn : ConnBytes
  pub there : Contains conns conn
  pub server_is : conn.server ≡ server
  pub id_is : conn.id ≡ id
  pub taken : l.taken ≡ Some conn.took
  pub sent : l.sent ≡ Some conn.sent
  pub ended : ends server id ≡ l.told_end

-- the script's clients as they come, and each record has its cause in a step of its session, at a moment of the script, by the
-- configuration, the session's line, the bytes that its client's link had carried by then and those of the connection that was closed;
-- or its session was stopped
pub record CausedByScript (script : Meaning) (ends : Ends) (t : Transcript) : Type 0 where
  pub ordered : List ClientLine
  pub in_order : ComeInOrder script.clients ordered
  pub caused : (x : Told) → Contains t.records x
      → CausedLine (scope script.config script.moments ordered) (IsToldClient t.clients) (IsToldConn t.conns ends) x
