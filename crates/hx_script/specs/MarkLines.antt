-- The lines of a server in a transcript: its rules and the marks of its history.
use Rattle.std.specs.Prelude.{ℕ, Bool, List, [], ◌++◌, Option, Some, None, if◌then◌else◌, codes, decimal}
use Rattle.std.specs.List.{flat_map}
use Rattle.hx_base.specs.declared.numbers.ThreadNo.{ThreadNo}
use Rattle.hx_base.specs.declared.numbers.SessionNo.{SessionNo}
use Rattle.hx_base.specs.declared.numbers.ConnId.{ConnId}
use Rattle.hx_base.specs.declared.numbers.PlaceNo.{PlaceNo}
use Rattle.hx_base.specs.declared.rules.Mode.{Mode}
use Rattle.hx_base.specs.declared.rules.Mode.TheVariants as mode
use Rattle.hx_pool.specs.declared.entries.Entry.{Entry}
use Rattle.hx_pool.specs.declared.entries.Entry.TheVariants as entry
use Rattle.hx_script.specs.declared.transcript.ServerPart.{ServerPart}

-- thread.session
abbrev pub who : ThreadNo → SessionNo → List ℕ
who t n = decimal t.0 ++ codes "." ++ decimal n.0

-- row:place
abbrev pub place_text : PlaceNo → List ℕ
place_text p = decimal p.row ++ codes ":" ++ decimal p.place

-- whether a take was made for the first request of its session
abbrev pub first_text : Bool → List ℕ
first_text first = if first then codes " first\n" else codes " later\n"

-- the gate after a mark
abbrev pub gate_text : Bool → List ℕ
gate_text draining = if draining then codes " drain\n" else codes " ready\n"

-- the session and the connection of a mark
abbrev pub who_conn : ThreadNo → SessionNo → ConnId → List ℕ
who_conn t n id = who t n ++ codes " " ++ decimal id.0

-- the place and the uses of a mark
abbrev pub place_uses : PlaceNo → ℕ → List ℕ
place_uses place uses = codes " " ++ place_text place ++ codes " " ++ decimal uses

-- the thread, and the interval's number after and before the mark
unfoldable pub round_line : ThreadNo → ℕ → ℕ → List ℕ
round_line t k old =
    codes "round " ++ decimal t.0 ++ codes " " ++ decimal k ++ codes " " ++ decimal old ++ codes "\n"

-- the line of a mark; other entries have none
unfoldable pub mark_line : Entry → List ℕ
mark_line (entry.Open t n id) = codes "open " ++ who_conn t n id ++ codes "\n"
mark_line (entry.Park t n id place uses) =
    codes "park " ++ who_conn t n id ++ place_uses place uses ++ codes "\n"
mark_line (entry.Take t n first place id uses) =
    codes "take " ++ who_conn t n id ++ place_uses place uses ++ first_text first
mark_line (entry.Close t n id) = codes "close " ++ who_conn t n id ++ codes "\n"
mark_line (entry.SetGate t draining) = codes "gate " ++ decimal t.0 ++ gate_text draining
mark_line (entry.Round t k old) = round_line t k old
mark_line (entry.Free t place) = []
mark_line (entry.Look t place found) = []
mark_line (entry.Up t old) = []
mark_line (entry.Down t old) = []
mark_line (entry.Count t c) = []
mark_line (entry.Gate t draining) = []

-- the configuration's word
abbrev pub mode_text : Mode → List ℕ
mode_text mode.Never = codes "never"
mode_text mode.Safe = codes "safe"
mode_text mode.Aggressive = codes "aggressive"
mode_text mode.Always = codes "always"

-- no limit is -1
abbrev pub max_text : Option ℕ → List ℕ
max_text None = codes "-1"
max_text (Some n) = decimal n

-- backend/server
abbrev pub full_name : ServerPart → List ℕ
full_name p = p.back ++ codes "/" ++ p.server

-- the rules of the server; delay is in milliseconds
unfoldable pub server_line : ServerPart → List ℕ
server_line p =
    codes "server " ++ full_name p ++ codes " " ++ mode_text p.rules.mode
    ++ codes " " ++ max_text p.rules.max ++ codes " " ++ decimal p.rules.low
    ++ codes " " ++ decimal p.rules.delay.0 ++ codes "\n"

-- the rules, then the marks in order
unfoldable pub server_lines : ServerPart → List ℕ
server_lines p = server_line p ++ flat_map mark_line p.marks
