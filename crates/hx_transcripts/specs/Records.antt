-- The lines of records.
use Rattle.std.specs.Prelude.{[], ◌∷◌, ◌++◌, None, Result, Ok, Err}
use Rattle.hx_transcripts_parts.specs.declared.fault.Rule.{Rule}
use Rattle.hx_transcripts_parts.specs.declared.fault.Rule.TheVariants.{WrongOrder}
use Rattle.hx_transcripts_parts.specs.declared.keywords.RecordWord.{RecordWord}
use Rattle.hx_transcripts_parts.specs.Faults.{◌>>=◌}
use Rattle.hx_transcripts_parts.specs.Lexical.{Rest, at_end}
use Rattle.hx_transcripts_parts.specs.Records.{record_at}
use Rattle.hx_transcripts.specs.declared.form.Form.{Form}
use Rattle.hx_transcripts.specs.declared.form.Form.TheVariants as form
use Rattle.hx_transcripts.specs.declared.reading.RecordsRead.{RecordsRead}
use Rattle.hx_transcripts.specs.declared.reading.Reading.{Reading}
use Rattle.hx_transcripts.specs.declared.reading.Reading.TheVariants as reading

-- a record, behind the first word of its line
abbrev pub record_line : RecordsRead → RecordWord → Rest → Result Reading Rule
record_line r first ws = do
  t ← record_at r.servers first ws
  Ok (reading.Records (record { servers = r.servers; records = r.records ++ t ∷ [] }))

-- `links`
abbrev pub links_line : RecordsRead → Rest → Result Reading Rule
links_line r ws = do
  e ← at_end ws
  Ok (reading.Clients (record { servers = r.servers; records = r.records; clients = []; half = None }))

-- a line of this form, where records stand
unfoldable pub records_said : RecordsRead → Form → Rest → Result Reading Rule
records_said r (form.Record first) ws = record_line r first ws
records_said r form.Links ws = links_line r ws
records_said r _ ws = Err WrongOrder
