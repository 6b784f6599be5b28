-- How the ranges of records cover the bytes of links.
use Rattle.std.specs.Prelude.{◌≡◌, ℕ, ◌+◌, ◌≤◌, Bool, true, ◌&&◌, List, [], ◌∷◌, ◌++◌, length, All, Contains, ◌==◌, if◌then◌else◌, ⊤}
use Rattle.std.specs.List.{flat_map}
use Rattle.hx_base.specs.declared.numbers.ThreadNo.{ThreadNo}
use Rattle.hx_base.specs.declared.numbers.SessionNo.{SessionNo}
use Rattle.hx_base.specs.declared.numbers.ServerNo.{ServerNo}
use Rattle.hx_base.specs.declared.numbers.ConnId.{ConnId}
use Rattle.hx_base.specs.declared.numbers.Span.{Span}
use Rattle.hx_base.specs.Spans.{AreContiguous}
use Rattle.hx_record.specs.declared.bytes.ClientBytes.{ClientBytes}
use Rattle.hx_record.specs.declared.bytes.ConnBytes.{ConnBytes}
use Rattle.hx_record.specs.declared.served.Carried.{Carried}
use Rattle.hx_record.specs.declared.served.Kind.{Kind}
use Rattle.hx_record.specs.declared.served.Kind.TheVariants as kind
use Rattle.hx_record.specs.declared.served.Left.{Left}
use Rattle.hx_record.specs.declared.served.Told.{Told}
use Rattle.hx_record.specs.declared.served.Told.TheVariants as told

-- the worker and session are those
abbrev pub is_of : ThreadNo → SessionNo → ThreadNo → SessionNo → Bool
is_of t n worker session = (t.0 == worker.0) && (n.0 == session.0)

-- the line is one of that session
abbrev pub is_line_of : ThreadNo → SessionNo → Told → Bool
is_line_of t n (told.Served s) = is_of t n s.worker s.session
is_line_of t n (told.Left l) = is_of t n l.worker l.session

-- the range of the client's bytes in a line of that session, its Left among them
abbrev pub ask_of : ThreadNo → SessionNo → Told → List Span
ask_of t n (told.Served s) = if is_of t n s.worker s.session then s.ask ∷ [] else []
ask_of t n (told.Left l) = if is_of t n l.worker l.session then l.ask ∷ [] else []

-- the range of what the client was given in a line of that session
abbrev pub gave_of : ThreadNo → SessionNo → Told → List Span
gave_of t n (told.Served s) = if is_of t n s.worker s.session then s.gave ∷ [] else []
gave_of t n (told.Left l) = []

-- the ranges of the session's Lefts
abbrev pub left_of : ThreadNo → SessionNo → Told → List Span
left_of t n (told.Served s) = []
left_of t n (told.Left l) = if is_of t n l.worker l.session then l.ask ∷ [] else []

-- the number of a record of that session
abbrev pub number_of : ThreadNo → SessionNo → Told → List ℕ
number_of t n (told.Served s) = if is_of t n s.worker s.session then s.number ∷ [] else []
number_of t n (told.Left l) = []

-- the numbers rise by one, from that one on
abbrev pub AreNumbered : ℕ → List ℕ → Type 0
AreNumbered k [] = ⊤
AreNumbered k (x ∷ numbers) = (x ≡ k) × AreNumbered (k + 1) numbers

-- the session has one Left, and it is its last line
abbrev pub EndsInLeft : ThreadNo → SessionNo → List Told → Type 0
EndsInLeft t n records =
    (front : List Told) × (l : Left) × (back : List Told) × (records ≡ front ++ told.Left l ∷ back)
    × (is_of t n l.worker l.session ≡ true)
    × (flat_map (left_of t n) front ≡ []) × (flat_map (ask_of t n) back ≡ [])

-- the session's ranges, with that of its Left last, follow each other from the first byte to the last, and its records
-- are numbered from 1 on
pub record TilesClient (records : List Told) (client : ClientBytes) : Type 0 where
  pub left : EndsInLeft client.worker client.session records
  pub asks : AreContiguous 0 (flat_map (ask_of client.worker client.session) records) (length client.took)
  pub gaves : AreContiguous 0 (flat_map (gave_of client.worker client.session) records) (length client.gave)
  pub numbers : AreNumbered 1 (flat_map (number_of client.worker client.session) records)

-- what a record tells of that connection
abbrev pub carried_if : ServerNo → ConnId → Carried → List Carried
carried_if server id c = if (c.server.0 == server.0) && (c.id.0 == id.0) then c ∷ [] else []

-- the exchange of a record on this connection, if it is one
abbrev pub carried_by : ServerNo → ConnId → Kind → List Carried
carried_by server id (kind.Passed c) = carried_if server id c
carried_by server id (kind.Cut c why) = carried_if server id c
carried_by server id (kind.Own status) = []

-- the exchange that a line tells on this connection, if it tells one
abbrev pub carried_of : ServerNo → ConnId → Told → List Carried
carried_of server id (told.Served s) = carried_by server id s.kind
carried_of server id (told.Left l) = []

-- by rising number the ranges follow each other; what comes behind the last one is in no record
abbrev pub InOrder : ℕ → ℕ → ℕ → List Carried → Type 0
InOrder nth sent took [] = ⊤
InOrder nth sent took (c ∷ exchanges) =
    (c.nth ≡ nth) × (c.sent.from ≡ sent) × (c.sent.from ≤ c.sent.to)
    × (c.took.from ≡ took) × (c.took.from ≤ c.took.to)
    × InOrder (nth + 1) c.sent.to c.took.to exchanges

-- the connection's exchanges, each told in one record, follow each other from the first byte
pub record TilesConn (records : List Told) (conn : ConnBytes) : Type 0 where
  pub exchanges : List Carried
  pub count : length exchanges ≡ length (flat_map (carried_of conn.server conn.id) records)
  pub told : All (Contains (flat_map (carried_of conn.server conn.id) records)) exchanges
  pub all_told : All (Contains exchanges) (flat_map (carried_of conn.server conn.id) records)
  pub order : InOrder 1 0 0 exchanges
