-- What reading back means for the lines of records, and for the rest of a server's line and of a line of totals.
use Rattle.std.specs.Prelude.{◌≡◌, ℕ, ◌≤◌, List, ◌++◌, Ok, length, codes}
use Rattle.hx_base.specs.declared.totals.Totals.{Totals}
use Rattle.hx_record.specs.declared.served.Carried.{Carried}
use Rattle.hx_record.specs.declared.served.Kind.{Kind}
use Rattle.hx_record.specs.declared.served.Kind.TheVariants as kind
use Rattle.hx_record.specs.declared.served.Told.{Told}
use Rattle.hx_record.specs.declared.served.Told.TheVariants as told
use Rattle.hx_script.specs.declared.transcript.ServerPart.{ServerPart}
use Rattle.hx_script.specs.PrintedForm.{IsToldRecord}
use Rattle.hx_script.specs.RecordLines.{record_line}
use Rattle.hx_transcripts_parts.specs.declared.keywords.RecordWord.{RecordWord}
use Rattle.hx_transcripts_parts.specs.declared.keywords.RecordWord.TheVariants as first
use Rattle.hx_transcripts_parts.specs.Lexical.{Rest, rest_text}
use Rattle.hx_transcripts_parts.specs.Numbers.{most_16, most_32, most_64}
use Rattle.hx_transcripts_parts.specs.ReadBack.{FitsWho, FitsSpan}
use Rattle.hx_transcripts_parts.specs.Records.{record_at}

-- the word of a kind of record
abbrev pub record_text : RecordWord → List ℕ
record_text first.Pass = codes "pass"
record_text first.Cut = codes "cut"
record_text first.Own = codes "own"
record_text first.Left = codes "left"

-- the numbers of an exchange are as large as their types hold
abbrev pub FitsCarried : Carried → Type 0
FitsCarried c = (c.server.0 ≤ most_16) × (c.id.0 ≤ most_64) × (c.nth ≤ most_32) × FitsSpan c.sent × FitsSpan c.took

-- and those of what became of a request
abbrev pub FitsKind : Kind → Type 0
FitsKind (kind.Passed c) = FitsCarried c
FitsKind (kind.Cut c why) = FitsCarried c
FitsKind (kind.Own status) = status ≤ most_16

-- and those of a record
abbrev pub FitsTold : Told → Type 0
FitsTold (told.Served s) = FitsWho (s.worker, s.session) × (s.number ≤ most_64) × FitsSpan s.ask × FitsSpan s.gave × FitsKind s.kind
FitsTold (told.Left l) = FitsWho (l.worker, l.session) × FitsSpan l.ask

-- what is left of a line behind its first word, and that word, are the line of the record
pub record IsRecordLine (servers : List ServerPart) (first : RecordWord) (ws : Rest) (t : Told) : Type 0 where
  pub told : IsToldRecord (length servers) t
  pub fits : FitsTold t
  pub line : record_line servers t ≡ record_text first ++ rest_text ws ++ codes "\n"

-- the record is read from its line
pub record IsRecordRead (servers : List ServerPart) (t : Told) : Type 0 where
  pub first : RecordWord
  pub ws : Rest
  pub line : record_line servers t ≡ record_text first ++ rest_text ws ++ codes "\n"
  pub read : record_at servers first ws ≡ Ok t

-- the counts are as large as their type holds
pub record FitsTotals (t : Totals) : Type 0 where
  pub opened : t.opened ≤ most_64
  pub parked : t.parked ≤ most_64
  pub taken : t.taken ≤ most_64
  pub over : t.over ≤ most_64
  pub care : t.care ≤ most_64
  pub closed : t.closed ≤ most_64
