-- What each line does.
use Rattle.std.specs.Prelude.{ℕ, List, [], Some, None, Result, Err}
use Rattle.hx_transcripts_parts.specs.declared.fault.Rule.{Rule}
use Rattle.hx_transcripts_parts.specs.declared.fault.Rule.TheVariants.{WrongOrder}
use Rattle.hx_transcripts_parts.specs.Faults.{◌>>=◌}
use Rattle.hx_transcripts_parts.specs.Lexical.{Rest, word_at}
use Rattle.hx_transcripts.specs.declared.form.Form.{Form}
use Rattle.hx_transcripts.specs.declared.reading.Reading.{Reading}
use Rattle.hx_transcripts.specs.declared.reading.Reading.TheVariants as reading
use Rattle.hx_transcripts.specs.Forms.{form_in}
use Rattle.hx_transcripts.specs.Servers.{servers_said}
use Rattle.hx_transcripts.specs.Records.{records_said}
use Rattle.hx_transcripts.specs.Links.{clients_said, conns_said}
use Rattle.hx_transcripts.specs.Sums.{totals_said}

-- behind the first line
abbrev pub nothing_read : Reading
nothing_read = reading.Servers (record { done = []; current = None })

-- a line of this form, which stands there or doesn't; no line stands behind the last one
abbrev pub said : Reading → Form → List ℕ → Rest → Result Reading Rule
said (reading.Servers r) f l ws = servers_said r f ws
said (reading.Records r) f l ws = records_said r f ws
said (reading.Clients r) f l ws = clients_said r f ws
said (reading.Conns r) f l ws = conns_said r f ws
said (reading.Totals r) f l ws = totals_said r f l ws
said (reading.Over p) f l ws = Err WrongOrder

-- a line: its first word says the form, then its words count from left to right
unfoldable pub line_read : Reading → List ℕ → Result Reading Rule
line_read r l = do
  x ← word_at (Some l)
  f ← form_in x.0
  said r f l x.1
