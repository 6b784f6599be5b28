-- Private: how the fields of a cabinet in memory stand for what it tells.
use Rattle.std.specs.Prelude.{Some, map, All}
use Rattle.hx_doors.specs.declared.memory_cabinet.MemoryCabinet.TheInside.{Inside}
use Rattle.hx_doors.specs.MemoryCabinets.{MemoryCabinetNow, IsUnread, file_told}

-- the value of a cabinet in memory
abbrev pub cabinet_view : Inside → MemoryCabinetNow
cabinet_view c = record {
  state = record { faults = c.faults; files = Some (map file_told c.files.items); told_end = c.ended };
  files = c.files.items;
}

-- none of its files was read
abbrev pub IsCabinet : Inside → Type 0
IsCabinet c = All (λ f. IsUnread f.1) c.files.items
