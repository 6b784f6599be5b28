-- Private: how the fields of a file in memory stand for what it tells.
use Rattle.std.specs.Prelude.{◌≡◌}
use Rattle.hx_link.specs.MemorySources.{MemorySourceNow}
use Rattle.hx_doors.specs.declared.memory_file.MemoryFile.TheInside.{Inside}

-- a file is its source, with its own count of faults
abbrev pub file_view : Inside → MemorySourceNow
file_view f = record f.source { state = record f.source.state { faults = f.faults } }

-- it remembers whether the source told its end
abbrev pub IsFile : Inside → Type 0
IsFile f = f.ended ≡ f.source.state.told_end
