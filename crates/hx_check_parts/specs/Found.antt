-- Private: tables that tell where the first item stands that passes a test.
use Rattle.std.specs.Prelude.{◌≡◌, ℕ, ◌<◌, Bool, List, length, take, find, Option, None, MatchOption, slice_get}
use Rattle.hx_base.specs.declared.numbers.ThreadNo.{ThreadNo}
use Rattle.hx_base.specs.declared.numbers.SessionNo.{SessionNo}
use Rattle.hx_base.specs.declared.numbers.ServerNo.{ServerNo}
use Rattle.hx_base.specs.declared.numbers.ConnId.{ConnId}
use Rattle.hx_record.specs.Tiles.{is_of}
use Rattle.hx_record.specs.declared.bytes.ClientBytes.{ClientBytes}
use Rattle.hx_record.specs.declared.bytes.ConnBytes.{ConnBytes}
use Rattle.hx_check_table.specs.declared.table.Table.{Table}
use Rattle.hx_check_table.specs.Tables.{value_at}
use Rattle.hx_check_parts.specs.Links.{is_conn}

-- of the items in front of that index, this is the first that passes
abbrev pub IsFoundIn : {A : Type 0} → (A → Bool) → List A → ℕ → Option ℕ → Type 0
IsFoundIn p xs i found =
    MatchOption found (find p (take i xs) ≡ None) (λ j. (find p (take i xs) ≡ slice_get xs j) × (j < i))

-- the table has the client of each session, as far as that index
abbrev pub FindsClientsIn : List ClientBytes → ℕ → Table ℕ → Type 0
FindsClientsIn clients i table =
    (t : ThreadNo) (n : SessionNo)
    → IsFoundIn (λ (c : ClientBytes). is_of c.worker c.session t n) clients i (value_at table t.0 n.0 0)

abbrev pub FindsClients : List ClientBytes → Table ℕ → Type 0
FindsClients clients table = FindsClientsIn clients (length clients) table

-- the table has each connection, as far as that index
abbrev pub FindsConnsIn : List ConnBytes → ℕ → Table ℕ → Type 0
FindsConnsIn conns i table =
    (server : ServerNo) (id : ConnId) → IsFoundIn (is_conn server id) conns i (value_at table server.0 id.0 0)

abbrev pub FindsConns : List ConnBytes → Table ℕ → Type 0
FindsConns conns table = FindsConnsIn conns (length conns) table
