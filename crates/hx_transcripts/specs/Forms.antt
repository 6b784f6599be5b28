-- The form of a line, which its first word says.
use Rattle.std.specs.Prelude.{ℕ, List, [], ◌∷◌, Option, Some, None, Result, Ok, codes}
use Rattle.hx_config_parts.specs.Tables.{found}
use Rattle.hx_transcripts_parts.specs.declared.fault.Rule.{Rule}
use Rattle.hx_transcripts_parts.specs.declared.keywords.MarkWord.{MarkWord}
use Rattle.hx_transcripts_parts.specs.declared.keywords.RecordWord.{RecordWord}
use Rattle.hx_transcripts_parts.specs.Faults.{◌>>=◌}
use Rattle.hx_transcripts_parts.specs.Keywords.{mark_words, record_words}
use Rattle.hx_transcripts_parts.specs.Lexical.{read_word}
use Rattle.hx_transcripts_parts.specs.Pieces.{name_in}
use Rattle.hx_transcripts.specs.declared.form.Form.{Form}
use Rattle.hx_transcripts.specs.declared.form.Form.TheVariants as form

-- words that begin lines of one form each
abbrev pub headings : List (List ℕ × Form)
headings =
    (codes "hx-transcript", form.Version) ∷ (codes "server", form.Server) ∷ (codes "records", form.Records)
    ∷ (codes "links", form.Links) ∷ (codes "client", form.Client) ∷ (codes "conn", form.Conn)
    ∷ (codes "totals", form.Totals) ∷ (codes "end", form.End) ∷ []

-- the name of a server begins a line of totals
abbrev pub total_form_in : List ℕ → Result Form Rule
total_form_in w = read_word name_in (Some w) >>= λ x. Ok form.Total

-- a heading, the word of a mark or of a record, or a name
abbrev pub form_among : List ℕ → Option Form → Option MarkWord → Option RecordWord → Result Form Rule
form_among w (Some f) mark told = Ok f
form_among w None (Some m) told = Ok (form.Mark m)
form_among w None None (Some r) = Ok (form.Record r)
form_among w None None None = total_form_in w

-- the form of the line that begins with the word; a word of no form breaks the second rule
unfoldable pub form_in : List ℕ → Result Form Rule
form_in w = form_among w (found headings w) (found mark_words w) (found record_words w)
