-- Which of a worker's sessions are there, and whose the buried links are, over a whole course.
use Rattle.std.specs.Prelude.{◌≡◌, ◌⊎◌, ◌≤◌, ℕ, List, Contains, Some, None, IsSome, slice_get}
use Rattle.hx_base.specs.declared.numbers.SessionNo.{SessionNo}
use Rattle.hx_base.specs.declared.numbers.ThreadNo.{ThreadNo}
use Rattle.hx_link.specs.Told.{LinkState}
use Rattle.hx_pool.specs.SeatView.{History}
use Rattle.hx_record.specs.declared.served.Told.{Told}
use Rattle.hx_connecting.specs.Sessions.{SessionNow}
use Rattle.hx_worker.specs.Workers.{session_of, NumbersRise}
use Rattle.hx_course.specs.Graves.{Grave, OfClient, grave, TellsOwner, clients_of}
use Rattle.hx_course.specs.Lines.{lefts_of}

-- each seat is that of the server with its number
abbrev pub AreInOrder : List History → Type 0
AreInOrder seats = (i : ℕ) (h : History) → slice_get seats i ≡ Some h → h.about.server.0 ≡ i

-- of a worker's thread, of the greatest number that was given, and of its sessions and seats
pub record KeepsOwners (t : ThreadNo) (last : ℕ) (sessions : List SessionNow) (seats : List History)
    (records : List Told) (graves : List Grave) : Type 0 where
  -- the numbers of the sessions that are there rise, and none is above the last one that was given
  pub rise : NumbersRise 0 sessions last
  pub its : (n : ℕ) (s : SessionNow) → session_of sessions n ≡ Some s → s.worker ≡ t
  pub order : AreInOrder seats
  -- no client's link tells a dial
  pub clients : (n : ℕ) (s : SessionNow) → session_of sessions n ≡ Some s → s.client.dial ≡ None
  -- the dial of each buried link is its owner's
  pub dials : (g : Grave) → Contains graves g → TellsOwner g.owner g.link
  -- clients' links were buried in the order of their sessions' Lefts
  pub lefts : clients_of graves ≡ lefts_of records
  -- each number that was given is one of a session that is there, or of one whose client's link was buried
  pub each : (n : SessionNo) → 1 ≤ n.0 → n.0 ≤ last
      → IsSome (session_of sessions n.0) ⊎ ((l : LinkState) × Contains graves (grave (OfClient t n) l))
