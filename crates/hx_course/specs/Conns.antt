-- How far the exchanges that records tell reach in the bytes of each connection's link, over a whole course.
use Rattle.std.specs.Prelude.{◌≡◌, ℕ, List, length, Contains, Some, IfSome, IsSome, slice_get}
use Rattle.hx_base.specs.declared.numbers.ConnId.{ConnId}
use Rattle.hx_base.specs.declared.numbers.ServerNo.{ServerNo}
use Rattle.hx_base.specs.declared.what.What.{What}
use Rattle.hx_conn.specs.WhatTold.{what_of_link}
use Rattle.hx_link.specs.Told.{LinkState}
use Rattle.hx_pool.specs.History.{table_after}
use Rattle.hx_pool.specs.SeatView.{History}
use Rattle.hx_pool.specs.Table.{Unopened, Closed}
use Rattle.hx_record.specs.Covers.{CoversConn}
use Rattle.hx_record.specs.declared.served.Told.{Told}
use Rattle.hx_connecting.specs.Sessions.{SessionNow, Holding, Resting, Exchanging, conn_link}
use Rattle.hx_worker.specs.Workers.{session_of}
use Rattle.hx_course.specs.Graves.{Grave, OfConn, grave}
use Rattle.hx_course.specs.Places.{IsAtRest}

-- the exchanges reach up to where the one under way began, or to the last byte of a connection that rests with its session
abbrev pub CoversHeld : List Told → Holding → Type 0
CoversHeld records (Exchanging b) =
    CoversConn b.server b.id records b.exchange.sent_from b.exchange.taken_from b.uses
CoversHeld records (Resting r) = CoversConn r.server r.id records r.link.sent_count r.link.taken_count r.uses

-- where the link of what a session has tells its bytes
abbrev pub HeldTells : Holding → Type 0
HeldTells c = IsSome (what_of_link (conn_link c)).told

-- the exchanges follow each other from the connection's first byte
pub record CoversSome (server : ServerNo) (id : ConnId) (records : List Told) : Type 0 where
  pub sent : ℕ
  pub took : ℕ
  pub count : ℕ
  pub covers : CoversConn server id records sent took count

-- the connection is closed, by its server's seat
pub record IsOver (seats : List History) (server : ServerNo) (id : ConnId) : Type 0 where
  pub seat : History
  pub at : slice_get seats server.0 ≡ Some seat
  pub closed : (table_after seat.seen).conns id.0 ≡ Closed

-- of a connection at each place, where its link tells its bytes
pub record KeepsConns (sessions : List SessionNow) (seats : List History) (records : List Told) (graves : List Grave)
    : Type 0 where
  -- with a session
  pub held : (n : ℕ) (s : SessionNow) (c : Holding) → session_of sessions n ≡ Some s → s.conn ≡ Some c → HeldTells c
      → CoversHeld records c
  -- at rest: up to its last byte, and as many as its uses
  pub rests : (server : ServerNo) (id : ConnId) (v : What) → (r : IsAtRest seats server id v)
      → IfSome v.told (λ l.
      CoversConn server id records (length l.sent) (length l.taken) ((table_after r.seat.seen).uses id.0))
  -- one that wasn't opened has none
  pub fresh : (server : ServerNo) (id : ConnId) (h : History) → slice_get seats server.0 ≡ Some h
      → (table_after h.seen).conns id.0 ≡ Unopened → CoversConn server id records 0 0 0
  -- one whose link was buried is closed
  pub buried : (server : ServerNo) (id : ConnId) (l : LinkState) → Contains graves (grave (OfConn server id) l)
      → IsOver seats server id × (IsSome (what_of_link l).told → CoversSome server id records)
