-- Private: how the fields of a net in memory stand for what it tells.
use Rattle.std.specs.Prelude.{◌≡◌, true, false, Some, ◌-◌, map, All, vec_capacity, vec_len}
use Rattle.hx_link.specs.declared.memory_net.MemoryNet.TheInside.{Inside}
use Rattle.hx_link.specs.MemoryLinks.{state_of}
use Rattle.hx_link.specs.MemoryNets.{MemoryNetNow, IsPlan}
use Rattle.hx_link.specs.DialNotes.{where_told, note_told}

-- the value of a net in memory
abbrev pub net_view : Inside → MemoryNetNow
net_view m = record {
  state = record {
    faults = m.faults;
    loop_no = m.thread.0;
    dials = where_told m.telling (map note_told m.dials.items);
    buried = where_told m.telling (map state_of m.buried.items);
    course = Some (record { plans = m.plans.items; failing = m.failing });
  };
  plans = m.plans.items;
  links = where_told m.telling m.buried.items;
  room = vec_capacity m.buried - vec_len m.buried;
  failing = m.failing;
  starved = m.starved;
}

-- what its fields keep
pub record IsNet (m : Inside) : Type 0 where
  pub plans : All IsPlan m.plans.items
  pub telling : m.starved ≡ false → m.telling ≡ true
