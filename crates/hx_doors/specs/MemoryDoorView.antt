-- Private: how the fields of a door in memory stand for what it tells.
use Rattle.std.specs.Prelude.{◌≡◌, ◌+◌, ◌^◌, ◌<◌, Some, All, map, length, take, drop}
use Rattle.hx_link.specs.Told.{LinkState}
use Rattle.hx_link.specs.DialNotes.{where_told}
use Rattle.hx_doors.specs.declared.memory_door.MemoryDoor.TheInside.{Inside}
use Rattle.hx_doors.specs.Doors.{IsClient}
use Rattle.hx_doors.specs.MemoryDoors.{MemoryDoorNow, client_told}

module _ {L : Type 0} (state : L → LinkState) where
  -- the value of a door in memory
  abbrev pub door_view : Inside L → MemoryDoorNow
  door_view d = record {
    state = record {
      faults = 0;
      waits = d.waits;
      clients = Some (map (client_told state) (take d.given d.all.value.items));
      listens = where_told d.telling d.listens.items;
    };
    left = map (client_told state) d.left.items;
  }

  -- those that are left are the last ones of all, and new
  pub record IsDoor (d : Inside L) : Type 0 where
    pub rest : drop d.given d.all.value.items ≡ d.left.items
    pub few : d.given + length d.left.items < 2 ^ 64
    pub new : All (λ c. IsClient (state c.1)) d.left.items
