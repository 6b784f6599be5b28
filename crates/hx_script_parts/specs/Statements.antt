-- What each line behind the configuration does to what was read before it, or the first rule that it breaks: its
-- words from left to right, then its place, then its moment, then the limits.
use Rattle.std.specs.Prelude.{ℕ, Bool, true, false, not, List, [], ◌∷◌, ◌++◌, length, Some, None, Result, Ok, nat_le, bytes_eq, codes, is_some}
use Rattle.hx_base.specs.declared.numbers.ServerNo.{ServerNo}
use Rattle.hx_base.specs.declared.order.Order.{Order}
use Rattle.hx_base.specs.declared.order.Order.TheVariants as order
use Rattle.hx_config_parts.specs.Tables.{found}
use Rattle.hx_config.specs.Meaning as config
use Rattle.hx_script_parts.specs.declared.fault.Rule.{Rule}
use Rattle.hx_script_parts.specs.declared.fault.Rule.TheVariants.{BadLine, WrongPlace, TooMany}
use Rattle.hx_script_parts.specs.declared.keywords.FirstWord.{FirstWord}
use Rattle.hx_script_parts.specs.declared.keywords.FirstWord.TheVariants as first
use Rattle.hx_script_parts.specs.declared.keywords.OrderWord.{OrderWord}
use Rattle.hx_script_parts.specs.declared.keywords.OrderWord.TheVariants as ordered
use Rattle.hx_script_parts.specs.declared.reading.Owner.TheVariants as owner
use Rattle.hx_script_parts.specs.declared.reading.Reading.{Reading}
use Rattle.hx_script_parts.specs.Faults.{◌>>=◌, unless}
use Rattle.hx_script_parts.specs.Keywords.{first_words}
use Rattle.hx_script_parts.specs.Lexical.{Rest, word_at, text_at, at_end}
use Rattle.hx_script_parts.specs.Names.{found_or, front_at, server_at, worker_at}
use Rattle.hx_script_parts.specs.Numbers.{greatest, number_at, moment_at}
use Rattle.hx_script_parts.specs.Reading.{empty_link, closed, with_link, at_moment, link_of, link_at}

-- the most clients
abbrev pub most_clients : ℕ
most_clients = 1000

-- the most `server` lines
abbrev pub most_plans : ℕ
most_plans = 4096

-- `client <frontend> <worker> <moment>`
abbrev pub client_line : config.Meaning → ℕ → Reading → Rest → Result Reading Rule
client_line c line r ws = do
  front ← front_at c ws
  worker ← worker_at c front.1
  m ← moment_at worker.1
  e ← at_end m.1
  few ← unless (nat_le most_clients (length (closed r).clients)) TooMany
  Ok (at_moment m.0 (with_link (empty_link line (owner.Client front.0 worker.0 m.0)) (closed r)))

-- nothing, or the one word `refuse`
abbrev pub refuse_at : Rest → Result Bool Rule
refuse_at None = Ok false
refuse_at (Some bs) = do
  x ← word_at (Some bs)
  same ← unless (not (bytes_eq x.0 (codes "refuse"))) BadLine
  e ← at_end x.1
  Ok true

-- `server <backend>/<server>`, and the same with `refuse`
abbrev pub server_line : config.Meaning → ℕ → Reading → Rest → Result Reading Rule
server_line c line r ws = do
  server ← server_at c ws
  refuse ← refuse_at server.1
  few ← unless (nat_le most_plans (length (closed r).plans)) TooMany
  Ok (with_link (empty_link line (owner.Server server.0 refuse)) (closed r))

-- `piece <moment> <after> <text>`
abbrev pub piece_line : Reading → Rest → Result Reading Rule
piece_line r ws = do
  m ← moment_at ws
  sent ← number_at 0 greatest m.1
  bytes ← text_at sent.1
  e ← at_end bytes.1
  l ← link_at m.0 r.current
  Ok (at_moment m.0 (with_link (record l {
    pieces = l.pieces ++ (record { at = m.0; after = sent.0; bytes = bytes.0 }) ∷ [];
    latest = m.0;
  }) r))

-- `end <moment> <after>`
abbrev pub end_line : Reading → Rest → Result Reading Rule
end_line r ws = do
  m ← moment_at ws
  sent ← number_at 0 greatest m.1
  e ← at_end sent.1
  l ← link_at m.0 r.current
  Ok (at_moment m.0 (with_link (record l { end = Some (m.0, sent.0) }) r))

-- `room <n>`
abbrev pub room_line : Reading → Rest → Result Reading Rule
room_line r ws = do
  n ← number_at 1 greatest ws
  e ← at_end n.1
  l ← link_of r.current
  once ← unless (is_some l.room) WrongPlace
  Ok (with_link (record l { room = Some n.0 }) r)

-- `fail <k>`
abbrev pub fail_line : Reading → Rest → Result Reading Rule
fail_line r ws = do
  k ← number_at 1 greatest ws
  e ← at_end k.1
  l ← link_of r.current
  once ← unless (is_some l.fail) WrongPlace
  Ok (with_link (record l { fail = Some k.0 }) r)

-- the order of a `drain` or a `ready` line
abbrev pub order_of : OrderWord → ServerNo → Order
order_of ordered.Drain s = order.Drain s
order_of ordered.Ready s = order.Ready s

-- `drain <moment> <backend>/<server>`, `ready <moment> <backend>/<server>`
abbrev pub order_line : OrderWord → config.Meaning → Reading → Rest → Result Reading Rule
order_line what c r ws = do
  m ← moment_at ws
  server ← server_at c m.1
  e ← at_end server.1
  Ok (at_moment m.0 (record r { orders = r.orders ++ (m.0, order_of what server.0) ∷ [] }))

-- `tick <moment>`
abbrev pub tick_line : Reading → Rest → Result Reading Rule
tick_line r ws = do
  m ← moment_at ws
  e ← at_end m.1
  Ok (at_moment m.0 r)

-- what a line with this first word does
unfoldable pub said : FirstWord → config.Meaning → ℕ → Reading → Rest → Result Reading Rule
said first.Client c line r ws = client_line c line r ws
said first.Server c line r ws = server_line c line r ws
said first.Piece c line r ws = piece_line r ws
said first.End c line r ws = end_line r ws
said first.Room c line r ws = room_line r ws
said first.Fail c line r ws = fail_line r ws
said first.Drain c line r ws = order_line ordered.Drain c r ws
said first.Ready c line r ws = order_line ordered.Ready c r ws
said first.Tick c line r ws = tick_line r ws

-- what is read behind a line, or the rule that it breaks
unfoldable pub line_read : config.Meaning → ℕ → Reading → List ℕ → Result Reading Rule
line_read c line r l = do
  x ← word_at (Some l)
  f ← found_or BadLine (found first_words x.0)
  said f c line r x.1
