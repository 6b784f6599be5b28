use Rattle.std.proofs.Common.{◌+◌, take}
use Rattle.hx_check_parts.specs.Sessions.{KeepsSessions}
use Rattle.hx_check_parts.specs.Numbers.{AreFewOf, KeepsExchanges}
use Rattle.hx_check_parts.proofs.records.tables_of.Given as goal

abbrev pub invariant-loop-k : goal.invariant-loop-k
invariant-loop-k l = record {
  sessions : KeepsSessions (take l.k l.list) l.sessions;
  exchanges : KeepsExchanges (take l.k l.list) l.exchanges;
  few : AreFewOf (l.k + 1) l.exchanges.counts;
}
