-- One call of a session, as its words speak of it.
use Rattle.std.specs.Prelude.{◌≡◌, ◌≤◌, true, false, List, Option, Some, None, slice_get}
use Rattle.hx_link.specs.Told.{LinkState}
use Rattle.hx_pool.specs.SeatView.{History}
use Rattle.hx_base.specs.declared.numbers.ServerNo.{ServerNo}
use Rattle.hx_pool.specs.declared.entries.Note.{Note}
use Rattle.hx_record.specs.declared.served.Left.{Left}
use Rattle.hx_record.specs.declared.served.Served.{Served}
use Rattle.hx_connecting.specs.Sessions.{SessionNow, Around}
use Rattle.hx_connecting.specs.Links.{IsSameLink}
use Rattle.hx_conn.specs.WhatTold.{what_of_link}
use Rattle.hx_link.specs.Nets.{NetState}

-- the session and what is around it, before and after the call, the entries that it made, server by server, and the record and the end
-- that it gave
pub record Doing : Type 0 where
  pub old : SessionNow
  pub new : SessionNow
  pub before : Around
  pub after : Around
  pub added : List (List Note)
  pub served : Option Served
  pub left : Option Left

-- the seat of a server after the call, and the call's entries there
pub record AtServer (d : Doing) (server : ServerNo) : Type 0 where
  pub history : History
  pub es : List Note
  pub seat : slice_get d.after.seats server.0 ≡ Some history
  pub entries : slice_get d.added server.0 ≡ Some es

-- the client's link: it stays what it is for, and bytes come behind its bytes
pub record IsSameClient (a b : LinkState) : Type 0 where
  pub link : IsSameLink (what_of_link a) (what_of_link b)
  pub plan : b.plan ≡ a.plan
  pub dial : b.dial ≡ a.dial
  pub taken : a.taken_count ≤ b.taken_count
  pub sent : a.sent_count ≤ b.sent_count

-- the net: it stays that of its loop, and its faults don't fall
pub record IsSameNet (a b : NetState) : Type 0 where
  pub loop : b.loop_no ≡ a.loop_no
  pub faults : a.faults ≤ b.faults

-- what stays of a session in every call
pub record IsSameSession (s s' : SessionNow) : Type 0 where
  pub worker : s'.worker ≡ s.worker
  pub number : s'.number ≡ s.number
  pub front : s'.front ≡ s.front
  pub since : s'.since ≡ s.since
  pub client : IsSameClient s.client s'.client
  -- its client's link is on its loop until it is over
  pub loop : (s'.over ≡ false → s'.client.on_loop ≡ s.client.on_loop) × (s'.over ≡ true → s'.client.on_loop ≡ None)
