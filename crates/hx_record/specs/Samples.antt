-- Samples of records: one exchange, and two that follow each other on one client's link and one
-- connection; and beside them what is wrong in one place.
use Rattle.std.specs.Prelude.{ℕ, true, false, List, [], ◌∷◌, ◌++◌, codes}
use Rattle.hx_base.specs.declared.numbers.Span.{Span}
use Rattle.hx_record.specs.declared.bytes.ClientBytes.{ClientBytes}
use Rattle.hx_record.specs.declared.bytes.ConnBytes.{ConnBytes}
use Rattle.hx_record.specs.declared.served.Carried.{Carried}
use Rattle.hx_record.specs.declared.served.Served.{Served}
use Rattle.hx_record.specs.declared.served.Kind.TheVariants as kind
use Rattle.hx_record.specs.declared.served.LeftCause.TheVariants as cause
use Rattle.hx_record.specs.declared.served.Told.{Told}
use Rattle.hx_record.specs.declared.served.Told.TheVariants as told
use Rattle.hx_record.specs.Carriage.{client_carriage, conn_carriage}
use Rattle.hx_record.specs.Truth.{RecountsBytes}

-- a request without a body, of 28 bytes
abbrev pub ask : List ℕ
ask = codes "GET /a HTTP/1.1\r\nHost: h\r\n\r\n"

-- an answer with a body of two bytes, of 40 bytes
abbrev pub answer : List ℕ
answer = codes "HTTP/1.1 200 OK\r\nContent-Length: 2\r\n\r\nhi"

-- an answer that differs in its last byte
abbrev pub other_answer : List ℕ
other_answer = codes "HTTP/1.1 200 OK\r\nContent-Length: 2\r\n\r\nho"

-- the answer as it goes out where the client's link closes, of 59 bytes
abbrev pub closing_answer : List ℕ
closing_answer = codes "HTTP/1.1 200 OK\r\nContent-Length: 2\r\nConnection: close\r\n\r\nhi"

-- the client's link, and the connection's
abbrev pub client : List ℕ → List ℕ → ClientBytes
client took gave = record { worker = record { 0 = 0 }; session = record { 0 = 1 }; took = took; gave = gave }

-- the connection with these bytes
abbrev pub conn : List ℕ → List ℕ → ConnBytes
conn sent took = record { server = record { 0 = 0 }; id = record { 0 = 1 }; sent = sent; took = took }

-- a range of bytes
abbrev pub range : ℕ → ℕ → Span
range from to = record { from = from; to = to }

-- what an exchange moved over the connection, which was its exchange of that number
abbrev pub moved : ℕ → Span → Span → Carried
moved nth sent took =
    record { server = record { 0 = 0 }; id = record { 0 = 1 }; nth = nth; sent = sent; took = took; closing = false }

-- the record of a request that was passed on
abbrev pub passed : ℕ → Span → Span → Carried → Served
passed number ask gave c =
    record { worker = record { 0 = 0 }; session = record { 0 = 1 }; number = number; ask = ask; gave = gave; kind = kind.Passed c }

-- the end of the session, whose client ended
abbrev pub left : Span → Told
left ask = told.Left (record { worker = record { 0 = 0 }; session = record { 0 = 1 }; ask = ask; cause = cause.End })

-- a record is true of the bytes of two links that didn't tell their ends
abbrev pub Recounts : Served → ClientBytes → ConnBytes → Type 0
Recounts s client conn =
    RecountsBytes s.kind s (client_carriage client false) (conn_carriage conn false) cause.End

-- the links after one exchange, and after two
abbrev pub one_asked : ClientBytes
one_asked = client ask answer

-- the connection after one exchange
abbrev pub one_carried : ConnBytes
one_carried = conn ask answer

-- the client after two exchanges
abbrev pub two_asked : ClientBytes
two_asked = client (ask ++ ask) (answer ++ answer)

-- the connection after two exchanges
abbrev pub two_carried : ConnBytes
two_carried = conn (ask ++ ask) (answer ++ answer)

-- the exchanges, which moved whole messages
abbrev pub first_moved : Carried
first_moved = moved 1 (range 0 28) (range 0 40)

-- the second exchange on the connection, as one of this number
abbrev pub second_moved : ℕ → Carried
second_moved nth = moved nth (range 28 56) (range 40 80)

-- the record of the first request
abbrev pub first : Served
first = passed 1 (range 0 28) (range 0 40) first_moved

-- the second request, told as the connection's exchange of that number
abbrev pub second_as : ℕ → Served
second_as nth = passed 2 (range 28 56) (range 40 80) (second_moved nth)

-- the record of the second request
abbrev pub second : Served
second = second_as 2

-- the records of one exchange, and those of two
abbrev pub one_record : List Told
one_record = told.Served first ∷ left (range 28 28) ∷ []

-- both records, and the end of the session
abbrev pub two_records : List Told
two_records = told.Served first ∷ told.Served second ∷ left (range 56 56) ∷ []

-- the record leaves out the last byte that the client was given, or the last of its request
abbrev pub gave_too_short : Served
gave_too_short = passed 1 (range 0 28) (range 0 39) first_moved

-- the first record with a request a byte short
abbrev pub ask_too_short : Served
ask_too_short = passed 1 (range 0 27) (range 0 40) first_moved

-- the record says that the client's link closes, and the client was told so
abbrev pub closed_untold : Served
closed_untold = passed 1 (range 0 28) (range 0 59) (record first_moved { closing = true })

-- the first byte of the second request, or of what was sent for it, is in no record
abbrev pub gap_in_asks : List Told
gap_in_asks = told.Served first ∷ told.Served (record second { ask = range 29 56 }) ∷ left (range 56 56) ∷ []

-- a gap in what was sent on the connection
abbrev pub gap_in_sent : List Told
gap_in_sent =
    told.Served first ∷ told.Served (passed 2 (range 28 56) (range 40 80) (moved 2 (range 29 56) (range 40 80)))
    ∷ left (range 56 56) ∷ []

-- the second request is told after the session's end
abbrev pub told_after_end : List Told
told_after_end = told.Served first ∷ left (range 28 28) ∷ told.Served second ∷ []

-- the session's end is told twice
abbrev pub left_twice : List Told
left_twice = told.Served first ∷ left (range 28 28) ∷ left (range 28 28) ∷ []

-- the session's first record says that it is the second, or its second that it is the third
abbrev pub begins_at_two : List Told
begins_at_two = told.Served (record first { number = 2 }) ∷ left (range 28 28) ∷ []

-- the second record has number 3
abbrev pub leaves_out_two : List Told
leaves_out_two = told.Served first ∷ told.Served (record second { number = 3 }) ∷ left (range 56 56) ∷ []

-- the first record alone, before its session goes on
abbrev pub first_line : List Told
first_line = told.Served first ∷ []
