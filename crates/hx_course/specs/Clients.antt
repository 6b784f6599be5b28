-- How far the records of each session reach in the bytes of its client's link, over a whole course.
use Rattle.std.specs.Prelude.{◌≡◌, ℕ, ◌≤◌, ◌<◌, List, length, Contains, Some, None}
use Rattle.hx_base.specs.declared.numbers.SessionNo.{SessionNo}
use Rattle.hx_base.specs.declared.numbers.ThreadNo.{ThreadNo}
use Rattle.hx_link.specs.Told.{LinkState}
use Rattle.hx_record.specs.Covers.{CoversClient}
use Rattle.hx_record.specs.Tiles.{TilesClient}
use Rattle.hx_record.specs.declared.bytes.ClientBytes.{ClientBytes}
use Rattle.hx_record.specs.declared.served.Told.{Told}
use Rattle.hx_connecting.specs.Sessions.{SessionNow}
use Rattle.hx_worker.specs.Workers.{session_of}
use Rattle.hx_course.specs.Graves.{Grave, OfClient, grave}

-- the session's records are as many as it counts, have no Left among them, and cover its client's bytes up to where the
-- next one begins
abbrev pub CoversOf : SessionNow → List Told → Type 0
CoversOf s records = CoversClient s.worker s.number records s.asked s.gave s.served

-- bytes of that session's client, as many as its link counts
pub record AreBytesOf (t : ThreadNo) (n : SessionNo) (l : LinkState) (c : ClientBytes) : Type 0 where
  pub worker : c.worker ≡ t
  pub session : c.session ≡ n
  pub took : length c.took ≡ l.taken_count
  pub gave : length c.gave ≡ l.sent_count

-- whatever these bytes are, the session's records and its one Left, which is last, tile them
abbrev pub IsTiled : ThreadNo → SessionNo → List Told → LinkState → Type 0
IsTiled t n records l = (c : ClientBytes) → AreBytesOf t n l c → TilesClient records c

-- a session of the worker that is gone, and whose client's link was buried
pub record IsGone (t : ThreadNo) (last : ℕ) (sessions : List SessionNow) (records : List Told) (u : ThreadNo)
    (n : SessionNo) (l : LinkState) : Type 0 where
  pub thread : u ≡ t
  pub given : n.0 ≤ last
  pub gone : session_of sessions n.0 ≡ None
  pub tiled : IsTiled u n records l

-- of a worker's thread, of the greatest number that was given and of its sessions
pub record KeepsClients (t : ThreadNo) (last : ℕ) (sessions : List SessionNow) (records : List Told)
    (graves : List Grave) : Type 0 where
  -- the records of a session that is there
  pub there : (n : ℕ) (s : SessionNow) → session_of sessions n ≡ Some s → CoversOf s records
  -- those of a number that wasn't given: none
  pub fresh : (n : SessionNo) → last < n.0 → CoversClient t n records 0 0 0
  -- those of each session whose client's link was buried
  pub buried : (u : ThreadNo) (n : SessionNo) (l : LinkState) → Contains graves (grave (OfClient u n) l)
      → IsGone t last sessions records u n l
