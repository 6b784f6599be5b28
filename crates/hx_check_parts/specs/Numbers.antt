-- Private: the exchanges of connections, as tables have them.
use Rattle.std.specs.Prelude.{◌≡◌, ℕ, ◌<◌, List, length, Option, None, Some}
use Rattle.std.specs.List.{flat_map}
use Rattle.hx_base.specs.declared.numbers.ServerNo.{ServerNo}
use Rattle.hx_base.specs.declared.numbers.ConnId.{ConnId}
use Rattle.hx_record.specs.Tiles.{carried_of}
use Rattle.hx_record.specs.declared.served.Carried.{Carried}
use Rattle.hx_record.specs.declared.served.Told.{Told}
use Rattle.hx_check_table.specs.declared.table.Table.{Table}
use Rattle.hx_check_table.specs.Tables.{value_at}
use Rattle.hx_check_parts.specs.Tiling.{numbered}
use Rattle.hx_check_parts.specs.declared.numbers.Exchanges.{Exchanges}

-- none, where nothing is there yet
abbrev pub count_in : Option ℕ → ℕ
count_in None = 0
count_in (Some count) = count

-- each count is less than that
abbrev pub AreFewOf : ℕ → Table ℕ → Type 0
AreFewOf m counts = (a b : ℕ) → count_in (value_at counts a b 0) < m

abbrev pub KeepsCounts : List Told → Table ℕ → Type 0
KeepsCounts records counts =
    (server : ServerNo) (id : ConnId)
    → count_in (value_at counts server.0 id.0 0) ≡ length (flat_map (carried_of server id) records)

abbrev pub KeepsFirsts : List Told → Table Carried → Type 0
KeepsFirsts records firsts =
    (server : ServerNo) (id : ConnId) (k : ℕ)
    → value_at firsts server.0 id.0 k ≡ numbered k (flat_map (carried_of server id) records)

pub record KeepsExchanges (records : List Told) (x : Exchanges) : Type 0 where
  pub counts : KeepsCounts records x.counts
  pub firsts : KeepsFirsts records x.firsts
