-- Private: what records tell, in tables.
use Rattle.std.specs.Prelude.{List}
use Rattle.hx_record.specs.declared.served.Told.{Told}
use Rattle.hx_check_parts.specs.Sessions.{KeepsSessions}
use Rattle.hx_check_parts.specs.Numbers.{KeepsExchanges}
use Rattle.hx_check_parts.specs.declared.records.Tables.{Tables}

pub record KeepsTables (records : List Told) (x : Tables) : Type 0 where
  pub sessions : KeepsSessions records x.sessions
  pub exchanges : KeepsExchanges records x.exchanges
