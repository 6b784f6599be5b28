-- What files of the machine tell before their first call.
use Rattle.std.specs.Prelude.{None, false}
use Rattle.hx_link.specs.Told.{SourceState}
use Rattle.hx_doors.specs.Cabinets.{CabinetState}

-- a file that was opened tells no bytes
abbrev pub new_file : SourceState
new_file = record { faults = 0; left = None; told_end = false }

-- a cabinet of files tells none of them
abbrev pub new_file_cabinet : CabinetState
new_file_cabinet = record { faults = 0; files = None; told_end = false }
