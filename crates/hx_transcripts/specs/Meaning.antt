-- What a text means: the parts of a transcript; or its first fault.
use Rattle.std.specs.Prelude.{ℕ, ◌+◌, ◌-◌, Bool, false, ◌==◌, List, [], ◌∷◌, length, Option, Some, None, Result, Ok, Err, if◌then◌else◌, nat_lt, bytes_eq, slice_get, codes}
use Rattle.hx_script.specs.declared.transcript.Transcript.{Transcript}
use Rattle.hx_script_parts.specs.Lexical.{lines_of}
use Rattle.hx_transcripts_parts.specs.declared.fault.Rule.{Rule}
use Rattle.hx_transcripts_parts.specs.declared.fault.Rule.TheVariants.{BadFirstLine, BadLine, WrongOrder, TooLong}
use Rattle.hx_transcripts_parts.specs.Faults.{◌>>=◌}
use Rattle.hx_transcripts.specs.declared.fault.Flaw.{Flaw}
use Rattle.hx_transcripts.specs.declared.reading.Parts.{Parts}
use Rattle.hx_transcripts.specs.declared.reading.Reading.{Reading}
use Rattle.hx_transcripts.specs.declared.reading.Reading.TheVariants as reading
use Rattle.hx_transcripts.specs.Lines.{nothing_read, line_read}

-- the greatest length of a text
abbrev pub longest_text : ℕ
longest_text = 16777216

-- the line breaks the rule
abbrev pub flaw : ℕ → Rule → Flaw
flaw line rule = record { line = line; rule = rule }

-- the rule that a line breaks, with the number of the line
abbrev pub located : {A : Type 0} → ℕ → Result A Rule → Result A Flaw
located line (Ok x) = Ok x
located line (Err rule) = Err (flaw line rule)

-- what the lines say behind the line of this number, and the number of the last of them
unfoldable pub lines_read : ℕ → Reading → List (List ℕ) → Result (Reading × ℕ) Flaw
lines_read last r [] = Ok (r, last)
lines_read last r (l ∷ ls) = located (last + 1) (line_read r l) >>= λ s. lines_read (last + 1) s ls

-- a line feed ends the last line
abbrev pub closes : Option ℕ → Bool
closes None = false
closes (Some b) = b == 10

-- a line feed ends the text
abbrev pub is_closed : List ℕ → Bool
is_closed text = closes (slice_get text (length text - 1))

-- the parts, where `end` is the last line
abbrev pub ended : Reading → ℕ → Result Parts Flaw
ended (reading.Over p) last = Ok p
ended _ last = Err (flaw last WrongOrder)

-- the same, where a line feed ends it
abbrev pub finished : Bool → Reading → ℕ → Result Parts Flaw
finished shut r last = if shut then ended r last else Err (flaw last BadLine)

-- what the lines mean; the first says the format and its version
abbrev pub lines_meant : Bool → List (List ℕ) → Result Parts Flaw
lines_meant shut [] = Err (flaw 1 BadFirstLine)
lines_meant shut (l ∷ ls) =
    if bytes_eq l (codes "hx-transcript 1")
    then lines_read 1 nothing_read ls >>= (λ x. finished shut x.0 x.1)
    else Err (flaw 1 BadFirstLine)

-- the meaning of a text, or its first fault
unfoldable pub meaning_of : List ℕ → Result Parts Flaw
meaning_of text =
    if nat_lt longest_text (length text) then Err (flaw 1 TooLong) else lines_meant (is_closed text) (lines_of text)

-- the parts of a transcript
abbrev pub parts_of : Transcript → Parts
parts_of t = record { servers = t.servers; records = t.records; clients = t.clients; conns = t.conns; totals = t.totals }
