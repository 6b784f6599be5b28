-- How a transcript tells the links that were buried in a course, and when nothing is left.
use Rattle.std.specs.Prelude.{◌≡◌, List, [], Contains, Some}
use Rattle.hx_base.specs.declared.numbers.ConnId.{ConnId}
use Rattle.hx_base.specs.declared.numbers.ServerNo.{ServerNo}
use Rattle.hx_base.specs.declared.numbers.SessionNo.{SessionNo}
use Rattle.hx_base.specs.declared.numbers.ThreadNo.{ThreadNo}
use Rattle.hx_base.specs.declared.what.What.{What}
use Rattle.hx_link.specs.Told.{LinkState, IsCounted}
use Rattle.hx_record.specs.declared.bytes.ClientBytes.{ClientBytes}
use Rattle.hx_record.specs.declared.bytes.ConnBytes.{ConnBytes}
use Rattle.hx_script.specs.TrueTranscript.{Ends}
use Rattle.hx_script.specs.declared.transcript.Transcript.{Transcript}
use Rattle.hx_worker.specs.Workers.{WorkerNow}
use Rattle.hx_course.specs.Graves.{Grave, OfClient, OfConn, grave}
use Rattle.hx_course.specs.Places.{IsAtRest}

-- a client's bytes are those of its link, which counts them
pub record TellsClient (t : ThreadNo) (n : SessionNo) (l : LinkState) (c : ClientBytes) : Type 0 where
  pub worker : c.worker ≡ t
  pub session : c.session ≡ n
  pub took : l.taken ≡ Some c.took
  pub gave : l.sent ≡ Some c.gave
  pub counted : IsCounted l

-- a connection's bytes are those of its link, whose end is the one that is told
pub record TellsConn (ends : Ends) (server : ServerNo) (id : ConnId) (l : LinkState) (c : ConnBytes) : Type 0 where
  pub server_is : c.server ≡ server
  pub id_is : c.id ≡ id
  pub sent : l.sent ≡ Some c.sent
  pub took : l.taken ≡ Some c.took
  pub ended : ends server id ≡ l.told_end

-- each link that was buried is told, and no other
pub record TellsGraves (graves : List Grave) (t : Transcript) (ends : Ends) : Type 0 where
  pub clients : (u : ThreadNo) (n : SessionNo) (l : LinkState) → Contains graves (grave (OfClient u n) l)
      → (c : ClientBytes) × Contains t.clients c × TellsClient u n l c
  pub conns : (server : ServerNo) (id : ConnId) (l : LinkState) → Contains graves (grave (OfConn server id) l)
      → (c : ConnBytes) × Contains t.conns c × TellsConn ends server id l c
  pub no_client : (c : ClientBytes) → Contains t.clients c
      → (l : LinkState) × Contains graves (grave (OfClient c.worker c.session) l) × TellsClient c.worker c.session l c
  pub no_conn : (c : ConnBytes) → Contains t.conns c
      → (l : LinkState) × Contains graves (grave (OfConn c.server c.id) l) × TellsConn ends c.server c.id l c

-- no session is there, and no connection rests
pub record IsEmptied (w : WorkerNow) : Type 0 where
  pub sessions : w.sessions ≡ []
  pub rests : (server : ServerNo) (id : ConnId) (v : What) → IsAtRest w.seats server id v → ⊥
