-- The words of a line that have parts: sessions, places, ranges, names and connections.
use Rattle.std.specs.Prelude.{ℕ, ◌+◌, Bool, ◌&&◌, not, List, [], ◌∷◌, Option, Some, None, Result, Ok, Err, if◌then◌else◌, nat_le, bytes_eq}
use Rattle.hx_base.specs.Names.{is_name}
use Rattle.hx_base.specs.declared.numbers.ThreadNo.{ThreadNo}
use Rattle.hx_base.specs.declared.numbers.SessionNo.{SessionNo}
use Rattle.hx_base.specs.declared.numbers.ServerNo.{ServerNo}
use Rattle.hx_base.specs.declared.numbers.ConnId.{ConnId}
use Rattle.hx_base.specs.declared.numbers.PlaceNo.{PlaceNo}
use Rattle.hx_base.specs.declared.numbers.Span.{Span}
use Rattle.hx_script.specs.declared.transcript.ServerPart.{ServerPart}
use Rattle.hx_transcripts_parts.specs.declared.fault.Rule.{Rule}
use Rattle.hx_transcripts_parts.specs.declared.fault.Rule.TheVariants.{BadLine, NoSuchName}
use Rattle.hx_transcripts_parts.specs.Faults.{◌>>=◌, unless, or_broken}
use Rattle.hx_transcripts_parts.specs.Lexical.{Rest, read_word, is_word}
use Rattle.hx_transcripts_parts.specs.Numbers.{number_in, cut_at, most_8, most_16, most_32, most_64}

-- two numbers with a mark between
abbrev pub pair_in : ℕ → ℕ → ℕ → List ℕ → Result (ℕ × ℕ) Rule
pair_in mark most most' w = do
  x ← or_broken BadLine (cut_at mark w)
  a ← number_in most x.0
  b ← number_in most' x.1
  Ok (a, b)

-- `<thread>.<session>`
abbrev pub who_in : List ℕ → Result (ThreadNo × SessionNo) Rule
who_in w = do
  x ← pair_in 46 most_8 most_32 w
  Ok (record { 0 = x.0 }, record { 0 = x.1 })

-- `<row>:<place>`
abbrev pub place_in : List ℕ → Result PlaceNo Rule
place_in w = do
  x ← pair_in 58 most_8 most_8 w
  Ok (record { row = x.0; place = x.1 })

-- `<from>-<to>`
abbrev pub span_in : List ℕ → Result Span Rule
span_in w = do
  x ← pair_in 45 most_64 most_64 w
  Ok (record { from = x.0; to = x.1 })

-- a range behind its label
abbrev pub range_at : List ℕ → Rest → Result (Span × Rest) Rule
range_at label ws = do
  l ← read_word (is_word label) ws
  read_word span_in l.1

-- a number behind its label
abbrev pub count_at : List ℕ → Rest → Result (ℕ × Rest) Rule
count_at label ws = do
  l ← read_word (is_word label) ws
  read_word (number_in most_64) l.1

-- `<backend>/<server>`, each a name
abbrev pub name_in : List ℕ → Result (List ℕ × List ℕ) Rule
name_in w = do
  x ← or_broken BadLine (cut_at 47 w)
  back ← unless (not (is_name x.0)) BadLine
  server ← unless (not (is_name x.1)) BadLine
  Ok x

-- a server of these names
abbrev pub has_names : List ℕ → List ℕ → ServerPart → Bool
has_names back server p = bytes_eq p.back back && bytes_eq p.server server

-- the place of the server of these names, counted on from i
unfoldable pub server_from : ℕ → List ℕ → List ℕ → List ServerPart → Option ℕ
server_from i back server [] = None
server_from i back server (p ∷ servers) =
    if has_names back server p then Some i else server_from (i + 1) back server servers

-- the number of a server, where its type holds it
abbrev pub numbered : ℕ → Result ServerNo Rule
numbered i = if nat_le i most_16 then Ok (record { 0 = i }) else Err NoSuchName

-- the number of the server that the word names
abbrev pub server_in : List ServerPart → List ℕ → Result ServerNo Rule
server_in servers w = do
  x ← name_in w
  i ← or_broken NoSuchName (server_from 0 x.0 x.1 servers)
  numbered i

-- `<backend>/<server>#<id>`
abbrev pub conn_in : List ServerPart → List ℕ → Result (ServerNo × ConnId) Rule
conn_in servers w = do
  x ← or_broken BadLine (cut_at 35 w)
  server ← server_in servers x.0
  id ← number_in most_64 x.1
  Ok (server, record { 0 = id })
