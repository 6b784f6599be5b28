-- What a door tells of itself, and what a caller learns of each of its calls. Contracts alone speak of it.
-- Counts of faults and of waits are kept in a u64 and stand still at its end.
use Rattle.std.specs.Prelude.{◌≡◌, ℕ, List, [], Option, None, IfSome, Result, Ok, Err}
use Rattle.hx_base.specs.declared.address.Address.{Address}
use Rattle.hx_link.specs.Told.{LinkState, CountsOne}
use Rattle.hx_link.specs.Nets.{GainsTold}
use Rattle.hx_link.specs.declared.net.NetFault.{NetFault}
use Rattle.hx_doors.specs.declared.door.Accepted.{Accepted}
use Rattle.hx_doors.specs.declared.door.Accepted.TheVariants as accepted

-- what a door tells
pub record DoorState : Type 0 where
  -- how often it failed, and how often no client came
  pub faults : ℕ
  pub waits : ℕ
  -- the clients that it gave, in order, each with its front and as it stood then, where it tells them
  pub clients : Option (List (ℕ × LinkState))
  -- all its listens, failed ones among them, each with its front and its address, where it tells them
  pub listens : Option (List (ℕ × Address))

-- a client's link: it is attached to no loop, nothing was taken of it or sent on it, and it tells no dial
pub record IsClient (l : LinkState) : Type 0 where
  pub no_loop : l.on_loop ≡ None
  pub taken_count : l.taken_count ≡ 0
  pub sent_count : l.sent_count ≡ 0
  pub taken : IfSome l.taken (λ bytes. bytes ≡ [])
  pub sent : IfSome l.sent (λ bytes. bytes ≡ [])
  pub no_dial : l.dial ≡ None

-- a listen is noted where listens are told, and one that fails counts a fault
abbrev pub DoorListens : {D : Type 0} → DoorState → DoorState → ℕ → Address → Result D NetFault → Type 0
DoorListens old new front address (Ok done) =
    (new ≡ record old { listens = new.listens }) × GainsTold (front, address) old.listens new.listens
DoorListens old new front address (Err fault) =
    (new ≡ record old { faults = new.faults; listens = new.listens })
    × GainsTold (front, address) old.listens new.listens × CountsOne old.faults new.faults

-- a client that is given is noted where clients are told; a wait and a fault are counted
abbrev pub DoorAccepts : {L : Type 0} → (L → LinkState) → DoorState → DoorState → Accepted L → Type 0
DoorAccepts state old new (accepted.Client front link) =
    (new ≡ record old { clients = new.clients }) × GainsTold (front, state link) old.clients new.clients
    × IsClient (state link)
DoorAccepts state old new accepted.NotYet =
    (new ≡ record old { waits = new.waits }) × CountsOne old.waits new.waits
DoorAccepts state old new accepted.Failed =
    (new ≡ record old { faults = new.faults }) × CountsOne old.faults new.faults
