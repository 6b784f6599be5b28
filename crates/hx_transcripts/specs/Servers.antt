-- The lines of servers and of their marks.
use Rattle.std.specs.Prelude.{ℕ, List, [], ◌∷◌, ◌++◌, Option, Some, None, Result, Ok, Err, is_some}
use Rattle.hx_script.specs.declared.transcript.ServerPart.{ServerPart}
use Rattle.hx_transcripts_parts.specs.declared.fault.Rule.{Rule}
use Rattle.hx_transcripts_parts.specs.declared.fault.Rule.TheVariants.{WrongOrder}
use Rattle.hx_transcripts_parts.specs.declared.keywords.MarkWord.{MarkWord}
use Rattle.hx_transcripts_parts.specs.Faults.{◌>>=◌, unless, or_broken}
use Rattle.hx_transcripts_parts.specs.Lexical.{Rest, read_word, at_end}
use Rattle.hx_transcripts_parts.specs.Marks.{mark_at, rules_at}
use Rattle.hx_transcripts_parts.specs.Pieces.{name_in, server_from}
use Rattle.hx_transcripts.specs.declared.form.Form.{Form}
use Rattle.hx_transcripts.specs.declared.form.Form.TheVariants as form
use Rattle.hx_transcripts.specs.declared.reading.OpenServer.{OpenServer}
use Rattle.hx_transcripts.specs.declared.reading.ServersRead.{ServersRead}
use Rattle.hx_transcripts.specs.declared.reading.Reading.{Reading}
use Rattle.hx_transcripts.specs.declared.reading.Reading.TheVariants as reading

-- the server whose lines are over
abbrev pub part_of : OpenServer → ServerPart
part_of o = record { back = o.back; server = o.server; rules = o.rules; marks = o.marks }

-- all servers so far
abbrev pub closed : List ServerPart → Option OpenServer → List ServerPart
closed done None = done
closed done (Some o) = done ++ part_of o ∷ []

-- a backend and a server, which no server so far is
abbrev pub new_names_at : List ServerPart → Rest → Result ((List ℕ × List ℕ) × Rest) Rule
new_names_at servers ws = do
  x ← read_word name_in ws
  new ← unless (is_some (server_from 0 x.0.0 x.0.1 servers)) WrongOrder
  Ok x

-- `server <backend>/<server> <mode> <max> <low> <delay>`, behind its first word
abbrev pub server_line : ServersRead → Rest → Result Reading Rule
server_line r ws = do
  x ← new_names_at (closed r.done r.current) ws
  rules ← rules_at x.1
  Ok (
      reading.Servers (
      record {
        done = closed r.done r.current;
        current = Some (record { back = x.0.0; server = x.0.1; rules = rules; marks = [] });
      }
      )
      )

-- a mark of the server whose line came last
abbrev pub mark_line : ServersRead → MarkWord → Rest → Result Reading Rule
mark_line r first ws = do
  o ← or_broken WrongOrder r.current
  m ← mark_at first ws
  Ok (reading.Servers (record { done = r.done; current = Some (record o { marks = o.marks ++ m ∷ [] }) }))

-- `records`
abbrev pub records_line : ServersRead → Rest → Result Reading Rule
records_line r ws = do
  e ← at_end ws
  Ok (reading.Records (record { servers = closed r.done r.current; records = [] }))

-- a line of this form, where servers stand
unfoldable pub servers_said : ServersRead → Form → Rest → Result Reading Rule
servers_said r form.Server ws = server_line r ws
servers_said r (form.Mark first) ws = mark_line r first ws
servers_said r form.Records ws = records_line r ws
servers_said r _ ws = Err WrongOrder
