-- Where the link of each session's client and of each connection is in a course of a worker, and that it goes on there.
use Rattle.std.specs.Prelude.{◌≡◌, ◌⊎◌, ℕ, true, List, ◌++◌, Contains, Option, Some, IfSome, slice_get}
use Rattle.hx_base.specs.declared.numbers.ConnId.{ConnId}
use Rattle.hx_base.specs.declared.numbers.PlaceNo.{PlaceNo}
use Rattle.hx_base.specs.declared.numbers.ServerNo.{ServerNo}
use Rattle.hx_base.specs.declared.numbers.SessionNo.{SessionNo}
use Rattle.hx_base.specs.declared.numbers.ThreadNo.{ThreadNo}
use Rattle.hx_base.specs.declared.what.LinkTold.{LinkTold}
use Rattle.hx_base.specs.declared.what.What.{What}
use Rattle.hx_conn.specs.WhatTold.{what_of_link}
use Rattle.hx_link.specs.Nets.{DialTold, NetState}
use Rattle.hx_link.specs.Told.{LinkState}
use Rattle.hx_pool.specs.History.{table_after, what_of}
use Rattle.hx_pool.specs.SeatView.{History}
use Rattle.hx_pool.specs.Table.{IdleAt}
use Rattle.hx_connecting.specs.Sessions.{SessionNow, Holding, conn_id, conn_link, conn_server}
use Rattle.hx_worker.specs.Workers.{session_of}
use Rattle.hx_course.specs.Graves.{Grave, OfClient, OfConn, grave}

-- the link of the client of a session that is there
pub record IsClientOf (sessions : List SessionNow) (t : ThreadNo) (n : SessionNo) (l : LinkState) : Type 0 where
  pub session : SessionNow
  pub there : session_of sessions n.0 ≡ Some session
  pub worker : session.worker ≡ t
  pub link : session.client ≡ l

-- the link of a session's client: it is with the session, or was buried
abbrev pub ClientIs : List SessionNow → List Grave → ThreadNo → SessionNo → LinkState → Type 0
ClientIs sessions graves t n l = IsClientOf sessions t n l ⊎ Contains graves (grave (OfClient t n) l)

-- a session has the connection, whose link tells this
pub record IsHeld (sessions : List SessionNow) (server : ServerNo) (id : ConnId) (v : What) : Type 0 where
  pub session : SessionNow
  pub there : session_of sessions session.number.0 ≡ Some session
  pub conn : Holding
  pub has : session.conn ≡ Some conn
  pub to : conn_server conn ≡ server
  pub number : conn_id conn ≡ id
  pub tells : v ≡ what_of_link (conn_link conn)

-- it rests at its server's seat, beside which this stands
pub record IsAtRest (seats : List History) (server : ServerNo) (id : ConnId) (v : What) : Type 0 where
  pub seat : History
  pub at : slice_get seats server.0 ≡ Some seat
  pub place : PlaceNo
  pub rests : (table_after seat.seen).conns id.0 ≡ IdleAt place
  pub beside : what_of seat.seen id.0 ≡ Some v

-- its link was buried, and told this
pub record IsInGrave (graves : List Grave) (server : ServerNo) (id : ConnId) (v : What) : Type 0 where
  pub link : LinkState
  pub there : Contains graves (grave (OfConn server id) link)
  pub tells : v ≡ what_of_link link

-- where the link of a connection is, and what it tells there
abbrev pub ConnIs : List SessionNow → List History → List Grave → ServerNo → ConnId → What → Type 0
ConnIs sessions seats graves server id v =
    IsHeld sessions server id v ⊎ IsAtRest seats server id v ⊎ IsInGrave graves server id v

-- bytes came behind bytes
pub record StandsBehind (x y : LinkTold) : Type 0 where
  pub sent : (more : List ℕ) × (y.sent ≡ x.sent ++ more)
  pub taken : (more : List ℕ) × (y.taken ≡ x.taken ++ more)

-- where the later one is told the earlier one was, and bytes came behind its bytes
abbrev pub ToldGrows : Option LinkTold → Option LinkTold → Type 0
ToldGrows a b = IfSome b (λ y. (x : LinkTold) × (a ≡ Some x) × StandsBehind x y)

abbrev pub BytesGrow : What → What → Type 0
BytesGrow v w = ToldGrows v.told w.told

-- each link goes on: it is somewhere still, and bytes came behind its bytes; one that was buried stays so
pub record LinksGoOn (sessions sessions' : List SessionNow) (seats seats' : List History) (graves graves' : List Grave)
    : Type 0 where
  pub clients : (t : ThreadNo) (n : SessionNo) (l : LinkState) → ClientIs sessions graves t n l
      → (k : LinkState) × ClientIs sessions' graves' t n k × BytesGrow (what_of_link l) (what_of_link k)
  pub conns : (server : ServerNo) (id : ConnId) (v : What) → ConnIs sessions seats graves server id v
      → (w : What) × ConnIs sessions' seats' graves' server id w × BytesGrow v w
  pub stay : (g : Grave) → Contains graves g → Contains graves' g

-- each connection that was dialled and could be had is somewhere still, where the net tells its dials
abbrev pub KeepsDials : List SessionNow → List History → List Grave → NetState → Type 0
KeepsDials sessions seats graves net =
    (dials : List DialTold) → net.dials ≡ Some dials → (d : DialTold) → Contains dials d → d.answered ≡ true
    → (v : What) × ConnIs sessions seats graves d.server d.id v
