use Rattle.std.proofs.Common.{All, take}
use Rattle.hx_doors.specs.Cabinets.{NamesOther}
use Rattle.hx_doors.proofs.memory_cabinet.find_file.Given as goal

abbrev pub invariant-loop-i : goal.invariant-loop-i
invariant-loop-i l = All (NamesOther l.name) (take l.i l.files)
