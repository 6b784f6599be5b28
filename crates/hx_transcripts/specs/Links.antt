-- The lines of links' bytes.
use Rattle.std.specs.Prelude.{ℕ, ◌-◌, Bool, true, ◌&&◌, ◌||◌, not, ◌==◌, List, [], ◌∷◌, ◌++◌, length, Option, Some, None, Result, Ok, Err, ⊤, if◌then◌else◌, nat_lt, bytes_eq, slice_get, is_some, codes}
use Rattle.hx_base.specs.declared.numbers.ThreadNo.{ThreadNo}
use Rattle.hx_base.specs.declared.numbers.SessionNo.{SessionNo}
use Rattle.hx_base.specs.declared.numbers.ServerNo.{ServerNo}
use Rattle.hx_base.specs.declared.numbers.ConnId.{ConnId}
use Rattle.hx_record.specs.declared.bytes.ClientBytes.{ClientBytes}
use Rattle.hx_record.specs.declared.bytes.ConnBytes.{ConnBytes}
use Rattle.hx_transcripts_parts.specs.declared.fault.Rule.{Rule}
use Rattle.hx_transcripts_parts.specs.declared.fault.Rule.TheVariants.{BadLine, WrongOrder}
use Rattle.hx_transcripts_parts.specs.Faults.{◌>>=◌, unless}
use Rattle.hx_transcripts_parts.specs.Lexical.{Rest, read_word, text_at, at_end}
use Rattle.hx_transcripts_parts.specs.Pieces.{who_in, conn_in}
use Rattle.hx_transcripts.specs.declared.form.Form.{Form}
use Rattle.hx_transcripts.specs.declared.form.Form.TheVariants as form
use Rattle.hx_transcripts.specs.declared.reading.ClientsRead.{ClientsRead}
use Rattle.hx_transcripts.specs.declared.reading.ConnsRead.{ConnsRead}
use Rattle.hx_transcripts.specs.declared.reading.HalfClient.{HalfClient}
use Rattle.hx_transcripts.specs.declared.reading.HalfConn.{HalfConn}
use Rattle.hx_transcripts.specs.declared.reading.Reading.{Reading}
use Rattle.hx_transcripts.specs.declared.reading.Reading.TheVariants as reading

-- by the first number, then by the second
abbrev pub is_before : ℕ → ℕ → ℕ → ℕ → Bool
is_before a b c d = nat_lt a c || ((a == c) && nat_lt b d)

-- the last of a list
abbrev pub last_of : {A : Type 0} → List A → Option A
last_of xs = slice_get xs (length xs - 1)

-- a client stands before this session
abbrev pub follows_client : Option ClientBytes → ThreadNo → SessionNo → Bool
follows_client None t n = true
follows_client (Some c) t n = is_before c.worker.0 c.session.0 t.0 n.0

-- the last client stands before this session
abbrev pub follows_clients : List ClientBytes → ThreadNo → SessionNo → Bool
follows_clients clients t n = follows_client (last_of clients) t n

-- a connection stands before this one
abbrev pub follows_conn : Option ConnBytes → ServerNo → ConnId → Bool
follows_conn None s id = true
follows_conn (Some c) s id = is_before c.server.0 c.id.0 s.0 id.0

-- the last connection stands before this one
abbrev pub follows_conns : List ConnBytes → ServerNo → ConnId → Bool
follows_conns conns s id = follows_conn (last_of conns) s id

-- the word announces this text of a link, and not the other
abbrev pub label_in : List ℕ → List ℕ → List ℕ → Result ⊤ Rule
label_in this other w = if bytes_eq w this then Ok tt else if bytes_eq w other then Err WrongOrder else Err BadLine

-- the label and the byte text that end a line
abbrev pub bytes_at : List ℕ → List ℕ → Rest → Result (List ℕ) Rule
bytes_at this other ws = do
  l ← read_word (label_in this other) ws
  x ← text_at l.1
  e ← at_end x.1
  Ok x.0

-- `<who> took <text>` of the next client
abbrev pub client_took : List ClientBytes → Rest → Result HalfClient Rule
client_took clients ws = do
  who ← read_word who_in ws
  next ← unless (not (follows_clients clients who.0.0 who.0.1)) WrongOrder
  took ← bytes_at (codes "took") (codes "gave") who.1
  Ok (record { worker = who.0.0; session = who.0.1; took = took })

-- `<who> gave <text>` of the same client
abbrev pub client_gave : HalfClient → Rest → Result ClientBytes Rule
client_gave h ws = do
  who ← read_word who_in ws
  same ← unless (not (who.0.0.0 == h.worker.0) || not (who.0.1.0 == h.session.0)) WrongOrder
  gave ← bytes_at (codes "gave") (codes "took") who.1
  Ok (record { worker = who.0.0; session = who.0.1; took = h.took; gave = gave })

-- the next line of a client
abbrev pub client_with : ClientsRead → Option HalfClient → Rest → Result Reading Rule
client_with r None ws = do
  h ← client_took r.clients ws
  Ok (reading.Clients (record { servers = r.servers; records = r.records; clients = r.clients; half = Some h }))
client_with r (Some h) ws = do
  c ← client_gave h ws
  Ok (reading.Clients (record { servers = r.servers; records = r.records; clients = r.clients ++ c ∷ []; half = None }))

-- a client's line, behind its first word
abbrev pub client_line : ClientsRead → Rest → Result Reading Rule
client_line r ws = client_with r r.half ws

-- `<conn> sent <text>` of the next connection
abbrev pub conn_sent : ConnsRead → Rest → Result HalfConn Rule
conn_sent r ws = do
  x ← read_word (conn_in r.servers) ws
  next ← unless (not (follows_conns r.conns x.0.0 x.0.1)) WrongOrder
  sent ← bytes_at (codes "sent") (codes "took") x.1
  Ok (record { server = x.0.0; id = x.0.1; sent = sent })

-- `<conn> took <text>` of the same connection
abbrev pub conn_took : ConnsRead → HalfConn → Rest → Result ConnBytes Rule
conn_took r h ws = do
  x ← read_word (conn_in r.servers) ws
  same ← unless (not (x.0.0.0 == h.server.0) || not (x.0.1.0 == h.id.0)) WrongOrder
  took ← bytes_at (codes "took") (codes "sent") x.1
  Ok (record { server = x.0.0; id = x.0.1; sent = h.sent; took = took })

-- the next line of a connection
abbrev pub conn_with : ConnsRead → Option HalfConn → Rest → Result Reading Rule
conn_with r None ws = do
  h ← conn_sent r ws
  Ok (reading.Conns (record r { half = Some h }))
conn_with r (Some h) ws = do
  c ← conn_took r h ws
  Ok (reading.Conns (record r { conns = r.conns ++ c ∷ []; half = None }))

-- a connection's line, behind its first word
abbrev pub conn_line : ConnsRead → Rest → Result Reading Rule
conn_line r ws = conn_with r r.half ws

-- all clients are there, each with both its lines
abbrev pub past_clients : ClientsRead → Result ConnsRead Rule
past_clients r = do
  whole ← unless (is_some r.half) WrongOrder
  Ok (record { servers = r.servers; records = r.records; clients = r.clients; conns = []; half = None })

-- `totals`, where each connection has both its lines
abbrev pub totals_line : ConnsRead → Rest → Result Reading Rule
totals_line r ws = do
  whole ← unless (is_some r.half) WrongOrder
  e ← at_end ws
  Ok (reading.Totals (record { servers = r.servers; records = r.records; clients = r.clients; conns = r.conns; totals = [] }))

-- a line of this form, where connections stand
unfoldable pub conns_said : ConnsRead → Form → Rest → Result Reading Rule
conns_said r form.Conn ws = conn_line r ws
conns_said r form.Totals ws = totals_line r ws
conns_said r _ ws = Err WrongOrder

-- what stands behind the clients
abbrev pub behind_clients : ClientsRead → Form → Rest → Result Reading Rule
behind_clients r f ws = past_clients r >>= λ s. conns_said s f ws

-- a line of this form, where clients stand; another line is one behind them
unfoldable pub clients_said : ClientsRead → Form → Rest → Result Reading Rule
clients_said r form.Client ws = client_line r ws
clients_said r f ws = behind_clients r f ws
