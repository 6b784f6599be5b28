-- Samples of records of a cut exchange and of an answer of the proxy's own, and what is wrong in one place.
use Rattle.std.specs.Prelude.{ℕ, false, List, [], codes}
use Rattle.hx_record.specs.declared.bytes.ClientBytes.{ClientBytes}
use Rattle.hx_record.specs.declared.bytes.ConnBytes.{ConnBytes}
use Rattle.hx_record.specs.declared.served.CutCause.{CutCause}
use Rattle.hx_record.specs.declared.served.Kind.TheVariants as kind
use Rattle.hx_record.specs.declared.served.LeftCause.{LeftCause}
use Rattle.hx_record.specs.declared.served.Served.{Served}
use Rattle.hx_record.specs.Carriage.{client_carriage, conn_carriage}
use Rattle.hx_record.specs.Truth.{RecountsBytes}
use Rattle.hx_record.specs.Samples.{ask, client, conn, range, moved}

-- an answer of which eight bytes are missing, of 41 bytes
abbrev pub part_answer : List ℕ
part_answer = codes "HTTP/1.1 200 OK\r\nContent-Length: 10\r\n\r\nhi"

-- the exchange was cut for that cause, and so many bytes of the answer are in its record
abbrev pub cut_at : ℕ → CutCause → Served
cut_at took why = record {
  worker = record { 0 = 0 };
  session = record { 0 = 1 };
  number = 1;
  ask = range 0 28;
  gave = range 0 41;
  kind = kind.Cut (moved 1 (range 0 28) (range 0 took)) why;
}

-- the client of the cut exchange
abbrev pub part_asked : ClientBytes
part_asked = client ask part_answer

-- the connection of the cut exchange
abbrev pub part_carried : ConnBytes
part_carried = conn ask part_answer

-- an answer of the proxy's own, of 74 bytes
abbrev pub own_answer : List ℕ
own_answer = codes "HTTP/1.1 503 Service Unavailable\r\nContent-Length: 0\r\nConnection: close\r\n\r\n"

-- a beginning of it, of 12 bytes
abbrev pub own_begun : List ℕ
own_begun = codes "HTTP/1.1 503"

-- the proxy answered itself with that status, and gave so many bytes
abbrev pub own_of : ℕ → ℕ → Served
own_of status gave = record {
  worker = record { 0 = 0 };
  session = record { 0 = 1 };
  number = 1;
  ask = range 0 28;
  gave = range 0 gave;
  kind = kind.Own status;
}

-- a record is true of two links that didn't tell their ends, and the session left for that cause
abbrev pub RecountsLeft : LeftCause → Served → ClientBytes → ConnBytes → Type 0
RecountsLeft why s client conn = RecountsBytes s.kind s (client_carriage client false) (conn_carriage conn false) why

-- the same of an answer of the proxy's own, for which no connection was used
abbrev pub RecountsOwn : LeftCause → Served → ClientBytes → Type 0
RecountsOwn why s client = RecountsLeft why s client (conn [] [])
