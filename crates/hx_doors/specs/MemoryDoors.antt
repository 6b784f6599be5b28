-- What a door in memory is to a contract, and exactly what each of its calls does.
use Rattle.std.specs.Prelude.{◌≡◌, ◌⊎◌, ℕ, List, [], ◌∷◌, Some, None, Result, Ok, Err}
use Rattle.hx_base.specs.declared.address.Address.{Address}
use Rattle.hx_link.specs.Told.{LinkState}
use Rattle.hx_link.specs.Nets.{with_more}
use Rattle.hx_link.specs.declared.net.NetFault.{NetFault}
use Rattle.hx_doors.specs.declared.door.Accepted.{Accepted}
use Rattle.hx_doors.specs.declared.door.Accepted.TheVariants as accepted
use Rattle.hx_doors.specs.Doors.{DoorState}

-- a door in memory, as contracts see it
pub record MemoryDoorNow : Type 0 where
  pub state : DoorState
  -- the clients that are left, in order, each with its front
  pub left : List (ℕ × LinkState)

-- a client as the door tells it
abbrev pub client_told : {L : Type 0} → (L → LinkState) → ℕ × L → ℕ × LinkState
client_told state c = (c.0, state c.1)

-- a door of these clients before its first call
abbrev pub new_door : List (ℕ × LinkState) → MemoryDoorNow
new_door clients = record {
  state = record { faults = 0; waits = 0; clients = Some []; listens = Some [] };
  left = clients;
}

-- a listen never fails, and is noted, unless no memory is found for it: then no listen is told any more
abbrev pub MemoryListens : {D : Type 0} → MemoryDoorNow → MemoryDoorNow → ℕ → Address → Result D NetFault → Type 0
MemoryListens old new front address (Ok done) =
    (new ≡ record old { state = record old.state { listens = with_more (front, address) old.state.listens } })
    ⊎ (new ≡ record old { state = record old.state { listens = None } })
MemoryListens old new front address (Err fault) = ⊥

-- the next client is given, and is told from then on; there is none exactly where none is left
abbrev pub MemoryAccepts : {L : Type 0} → (L → LinkState) → MemoryDoorNow → MemoryDoorNow → Accepted L → Type 0
MemoryAccepts state old new (accepted.Client front link) =
    (old.left ≡ (front, state link) ∷ new.left)
    × (new.state ≡ record old.state { clients = with_more (front, state link) old.state.clients })
MemoryAccepts state old new accepted.NotYet =
    (old.left ≡ []) × (new ≡ record old { state = record old.state { waits = new.state.waits } })
MemoryAccepts state old new accepted.Failed = ⊥
