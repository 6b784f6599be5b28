-- The six rules, each a fact of every line that it speaks of.
use Rattle.std.specs.Prelude.{◌≡◌, ℕ, List, IfSome, slice_get}
use Rattle.hx_base.specs.declared.totals.Totals.{Totals}
use Rattle.hx_pool.specs.Totals.{totals_of}
use Rattle.hx_pool.specs.declared.entries.Entry.{Entry}
use Rattle.hx_record.specs.declared.bytes.ClientBytes.{ClientBytes}
use Rattle.hx_record.specs.declared.bytes.ConnBytes.{ConnBytes}
use Rattle.hx_record.specs.declared.served.Told.{Told}
use Rattle.hx_script.specs.declared.transcript.ServerPart.{ServerPart}
use Rattle.hx_script.specs.declared.transcript.Transcript.{Transcript}
use Rattle.hx_check_parts.specs.Each.{HoldsOfEach}
use Rattle.hx_check_parts.specs.Marks.{IsStepAt, IsAllowedAt, IsWithinAt}
use Rattle.hx_check_parts.specs.Ranges.{HasLeftAt}
use Rattle.hx_check_parts.specs.Tiling.{IsLastOf, SentHolds, TookHolds}
use Rattle.hx_check.specs.Records.{RecordIn}

-- it holds of each mark of each server
abbrev pub MarksHold : (ServerPart → ℕ → Entry → Type 0) → List ServerPart → Type 0
MarksHold P servers = HoldsOfEach (λ i (p : ServerPart). HoldsOfEach (P p) p.marks) servers

-- legal: a mark is a step of the connection table
abbrev pub LegalMark : ServerPart → ℕ → Entry → Type 0
LegalMark p k mark = IsStepAt p.marks k mark

-- mode: the server's mode lets it be
abbrev pub ModeMark : ServerPart → ℕ → Entry → Type 0
ModeMark p k mark = IsAllowedAt p.rules k mark

-- limit: after it no more rest than may
abbrev pub LimitMark : ServerPart → ℕ → Entry → Type 0
LimitMark p k mark = IsWithinAt p.rules p.marks k mark

-- tiles: the exchanges of a connection are numbered, and their ranges follow each other
abbrev pub ConnIn : List Told → ℕ → ConnBytes → Type 0
ConnIn records k c = SentHolds records c × TookHolds records c

-- totals: they are those of the server's marks
abbrev pub SumIn : List ServerPart → ℕ → Totals → Type 0
SumIn servers k s = IfSome (slice_get servers k) (λ p. s ≡ totals_of p.marks)

-- the rules of a whole transcript: a record is true of its bytes
abbrev pub RecordAt : Transcript → ℕ → Told → Type 0
RecordAt t k r = RecordIn t.clients t.conns k r

-- a left line is its session's last, and the ranges cover the client's bytes
abbrev pub LeftAt : Transcript → ℕ → Told → Type 0
LeftAt t k r = IsLastOf t.clients t.records k r

-- each client's session has a left line
abbrev pub ClientAt : Transcript → ℕ → ClientBytes → Type 0
ClientAt t k c = HasLeftAt t.records k c

abbrev pub ConnAt : Transcript → ℕ → ConnBytes → Type 0
ConnAt t k c = ConnIn t.records k c

abbrev pub TotalsAt : Transcript → ℕ → Totals → Type 0
TotalsAt t k s = SumIn t.servers k s
