-- What a door over sockets tells before its first call.
use Rattle.std.specs.Prelude.{None}
use Rattle.hx_doors.specs.Doors.{DoorState}

-- it tells neither clients nor listens
abbrev pub new_sock_door : DoorState
new_sock_door = record { faults = 0; waits = 0; clients = None; listens = None }
