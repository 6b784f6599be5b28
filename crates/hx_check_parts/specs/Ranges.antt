-- Private: the ranges that a record tells of a session.
use Rattle.std.specs.Prelude.{ℕ, List}
use Rattle.std.specs.List.{flat_map}
use Rattle.hx_base.specs.declared.numbers.Span.{Span}
use Rattle.hx_base.specs.declared.numbers.ThreadNo.{ThreadNo}
use Rattle.hx_base.specs.declared.numbers.SessionNo.{SessionNo}
use Rattle.hx_record.specs.Tiles.{ask_of, gave_of, left_of}
use Rattle.hx_record.specs.declared.served.Told.{Told}
use Rattle.hx_record.specs.declared.bytes.ClientBytes.{ClientBytes}
use Rattle.hx_check_parts.specs.Tiling.{HasLeft}
use Rattle.hx_check_parts.specs.declared.ranges.Side.{Side}
use Rattle.hx_check_parts.specs.declared.ranges.Side.TheVariants.{Ask, Gave, Leaves}

-- the range of a side that the record tells of the session
abbrev pub range_of : Side → ThreadNo → SessionNo → Told → List Span
range_of Ask t n told = ask_of t n told
range_of Gave t n told = gave_of t n told
range_of Leaves t n told = left_of t n told

abbrev pub ranges_of : Side → ThreadNo → SessionNo → List Told → List Span
ranges_of side t n records = flat_map (range_of side t n) records

-- the client at an index has a left line
abbrev pub HasLeftAt : List Told → ℕ → ClientBytes → Type 0
HasLeftAt records k c = HasLeft records c
