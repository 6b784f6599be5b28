-- Private: how the fields of the source and the sink in memory stand for what they tell.
use Rattle.std.specs.Prelude.{drop, Some}
use Rattle.hx_link.specs.MemorySources.{MemorySourceNow, MemorySinkNow}
use Rattle.hx_link.specs.declared.memory_source.MemorySource.TheInside as source
use Rattle.hx_link.specs.declared.memory_sink.MemorySink.TheInside as sink

-- the value of a source in memory
abbrev pub source_view : source.Inside → MemorySourceNow
source_view s = record {
  state = record { faults = s.faults; left = Some (drop s.at s.bytes.items); told_end = s.ended };
  fails = s.fails.items;
  calls = s.calls;
}

-- the value of a sink in memory
abbrev pub sink_view : sink.Inside → MemorySinkNow
sink_view s = record {
  state = record { faults = s.faults; taken = Some s.bytes.items };
  room = s.room;
  fails = s.fails.items;
  calls = s.calls;
}
