-- Private: connections that break the fifth rule.
use Rattle.std.specs.Prelude.{ℕ, ◌+◌, ◌*◌, List}
use Rattle.hx_record.specs.declared.bytes.ConnBytes.{ConnBytes}
use Rattle.hx_record.specs.declared.served.Told.{Told}
use Rattle.hx_check_parts.specs.Each.{FailsFirst}
use Rattle.hx_check_parts.specs.Tiling.{SentHolds}
use Rattle.hx_script.specs.declared.transcript.Transcript.{Transcript}
use Rattle.hx_check.specs.Lines.{conns_at}
use Rattle.hx_check.specs.Rules.{ConnIn}
use Rattle.hx_check.specs.declared.tiles.ConnBreak.{ConnBreak}
use Rattle.hx_check.specs.declared.tiles.ConnBreak.TheVariants.{Sent, Took}

-- it is the first, by what was sent or else by what was read
abbrev pub IsFirst : List Told → List ConnBytes → ConnBreak → Type 0
IsFirst records conns (Sent k) = (x : FailsFirst (ConnIn records) conns k) × (¬ SentHolds records x.item)
IsFirst records conns (Took k) = (x : FailsFirst (ConnIn records) conns k) × SentHolds records x.item

-- its line
abbrev pub line_of : Transcript → ConnBreak → ℕ
line_of t (Sent k) = conns_at t + 2 * k
line_of t (Took k) = conns_at t + 2 * k + 1
