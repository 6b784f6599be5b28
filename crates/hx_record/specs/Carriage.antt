-- What a link carried.
use Rattle.std.specs.Prelude.{ℕ, Bool, List}
use Rattle.hx_record.specs.declared.bytes.ClientBytes.{ClientBytes}
use Rattle.hx_record.specs.declared.bytes.ConnBytes.{ConnBytes}

-- the bytes that were read of it and written to it, and whether it told its end
pub record Carriage : Type 0 where
  pub taken : List ℕ
  pub sent : List ℕ
  pub ended : Bool

-- a client's link that told its end so
abbrev pub client_carriage : ClientBytes → Bool → Carriage
client_carriage c ended = record { taken = c.took; sent = c.gave; ended = ended }

-- a connection's link that told its end so
abbrev pub conn_carriage : ConnBytes → Bool → Carriage
conn_carriage c ended = record { taken = c.took; sent = c.sent; ended = ended }
