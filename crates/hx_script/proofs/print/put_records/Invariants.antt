use Rattle.std.proofs.Common.{◌≡◌, ◌++◌, take}
use Rattle.std.specs.List.{flat_map}
use Rattle.hx_script.specs.RecordLines.{record_line}
use Rattle.hx_script.proofs.print.put_records.Given as goal

abbrev pub invariant-loop-told : goal.invariant-loop-told
invariant-loop-told l = l.out.items ≡ l.initial.out.items ++ flat_map (record_line l.servers) (take l.told-index l.records)
