-- Samples of the load that is generated.
use Rattle.std.specs.Prelude.{◌≡◌}
use Rattle.hx_drill_parts.specs.Load.{all_requests, all_bytes}

-- the first two sessions, and the first four
abbrev pub FirstTwo : Type 0
FirstTwo = (all_requests 0 2 ≡ 3) × (all_bytes 0 2 ≡ 69)

abbrev pub FirstFour : Type 0
FirstFour = (all_requests 0 4 ≡ 10) × (all_bytes 0 4 ≡ 690)
