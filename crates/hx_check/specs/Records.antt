-- The fourth rule: what a record says of the bytes that its ranges name.
use Rattle.std.specs.Prelude.{ℕ, List}
use Rattle.hx_base.specs.Spans.{bytes_in, LiesIn}
use Rattle.hx_record.specs.declared.bytes.ClientBytes.{ClientBytes}
use Rattle.hx_record.specs.declared.bytes.ConnBytes.{ConnBytes}
use Rattle.hx_record.specs.declared.served.Carried.{Carried}
use Rattle.hx_record.specs.declared.served.Kind.{Kind}
use Rattle.hx_record.specs.declared.served.Kind.TheVariants as kind
use Rattle.hx_record.specs.declared.served.Served.{Served}
use Rattle.hx_record.specs.declared.served.Told.{Told}
use Rattle.hx_record.specs.declared.served.Told.TheVariants as told
use Rattle.hx_check_parts.specs.Links.{client_took, client_gave, conn_sent, conn_took}
use Rattle.hx_check_records.specs.Exchanges.{PassIs, CutIs, OwnIs}

-- the bytes of the four ranges of an exchange, which lie in the bytes of its links
pub record Ranges (clients : List ClientBytes) (conns : List ConnBytes) (s : Served) (c : Carried) : Type 0 where
  pub ask : LiesIn s.ask (client_took clients s.worker s.session)
  pub sent : LiesIn c.sent (conn_sent conns c.server c.id)
  pub took : LiesIn c.took (conn_took conns c.server c.id)
  pub gave : LiesIn s.gave (client_gave clients s.worker s.session)

abbrev pub ask_bytes : List ClientBytes → Served → List ℕ
ask_bytes clients s = bytes_in (client_took clients s.worker s.session) s.ask

abbrev pub gave_bytes : List ClientBytes → Served → List ℕ
gave_bytes clients s = bytes_in (client_gave clients s.worker s.session) s.gave

abbrev pub sent_bytes : List ConnBytes → Carried → List ℕ
sent_bytes conns c = bytes_in (conn_sent conns c.server c.id) c.sent

abbrev pub took_bytes : List ConnBytes → Carried → List ℕ
took_bytes conns c = bytes_in (conn_took conns c.server c.id) c.took

-- a record by its kind
abbrev pub KindHolds : List ClientBytes → List ConnBytes → Served → Kind → Type 0
KindHolds clients conns s (kind.Passed c) =
    Ranges clients conns s c
    × PassIs c.closing (ask_bytes clients s) (sent_bytes conns c) (took_bytes conns c) (gave_bytes clients s)
KindHolds clients conns s (kind.Cut c why) =
    Ranges clients conns s c
    × CutIs c.closing (ask_bytes clients s) (sent_bytes conns c) (took_bytes conns c) (gave_bytes clients s)
KindHolds clients conns s (kind.Own status) =
    LiesIn s.ask (client_took clients s.worker s.session) × LiesIn s.gave (client_gave clients s.worker s.session)
    × OwnIs status (gave_bytes clients s)

-- the record is true of its bytes, and the range of a left line lies in those of its client
abbrev pub RecordHolds : List ClientBytes → List ConnBytes → Told → Type 0
RecordHolds clients conns (told.Served s) = KindHolds clients conns s s.kind
RecordHolds clients conns (told.Left x) = LiesIn x.ask (client_took clients x.worker x.session)

-- the same of a record at an index
abbrev pub RecordIn : List ClientBytes → List ConnBytes → ℕ → Told → Type 0
RecordIn clients conns k r = RecordHolds clients conns r
