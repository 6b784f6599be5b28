-- The lines of totals, and the last line.
use Rattle.std.specs.Prelude.{ℕ, not, ◌==◌, List, [], ◌∷◌, ◌++◌, length, Some, Result, Ok, Err}
use Rattle.hx_script.specs.declared.transcript.ServerPart.{ServerPart}
use Rattle.hx_transcripts_parts.specs.declared.fault.Rule.{Rule}
use Rattle.hx_transcripts_parts.specs.declared.fault.Rule.TheVariants.{WrongOrder, NoSuchName}
use Rattle.hx_transcripts_parts.specs.Faults.{◌>>=◌, unless, or_broken}
use Rattle.hx_transcripts_parts.specs.Lexical.{Rest, read_word, at_end}
use Rattle.hx_transcripts_parts.specs.Pieces.{name_in, server_from}
use Rattle.hx_transcripts_parts.specs.Records.{totals_at}
use Rattle.hx_transcripts.specs.declared.form.Form.{Form}
use Rattle.hx_transcripts.specs.declared.form.Form.TheVariants as form
use Rattle.hx_transcripts.specs.declared.reading.TotalsRead.{TotalsRead}
use Rattle.hx_transcripts.specs.declared.reading.Reading.{Reading}
use Rattle.hx_transcripts.specs.declared.reading.Reading.TheVariants as reading

-- the place of the server that the next word names
abbrev pub named_at : List ServerPart → Rest → Result (ℕ × Rest) Rule
named_at servers ws = do
  x ← read_word name_in ws
  i ← or_broken NoSuchName (server_from 0 x.0.0 x.0.1 servers)
  Ok (i, x.1)

-- `<backend>/<server> open <n> ..`, of the next server
abbrev pub total_line : TotalsRead → List ℕ → Result Reading Rule
total_line r l = do
  i ← named_at r.servers (Some l)
  next ← unless (not (i.0 == length r.totals)) WrongOrder
  t ← totals_at i.1
  Ok (reading.Totals (record r { totals = r.totals ++ t ∷ [] }))

-- `end`, behind the totals of all servers
abbrev pub end_line : TotalsRead → Rest → Result Reading Rule
end_line r ws = do
  all ← unless (not (length r.totals == length r.servers)) WrongOrder
  e ← at_end ws
  Ok (reading.Over (record { servers = r.servers; records = r.records; clients = r.clients; conns = r.conns; totals = r.totals }))

-- a line of this form, where totals stand
unfoldable pub totals_said : TotalsRead → Form → List ℕ → Rest → Result Reading Rule
totals_said r form.Total l ws = total_line r l
totals_said r form.End l ws = end_line r ws
totals_said r _ l ws = Err WrongOrder
