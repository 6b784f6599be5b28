-- Private: what records tell of sessions, as a table has it.
use Rattle.std.specs.Prelude.{◌≡◌, ◌≢◌, ℕ, ◌+◌, ◌<◌, ◌==◌, ◌&&◌, not, nat_lt, false, cond, List, [], length, drop, fold, Option, None, Some, IsTrue, ◌↔◌, MatchOption}
use Rattle.hx_base.specs.declared.numbers.Span.{Span}
use Rattle.hx_base.specs.declared.numbers.ThreadNo.{ThreadNo}
use Rattle.hx_base.specs.declared.numbers.SessionNo.{SessionNo}
use Rattle.hx_record.specs.declared.served.Told.{Told}
use Rattle.hx_record.specs.declared.served.Told.TheVariants as told
use Rattle.hx_check_table.specs.declared.table.Table.{Table}
use Rattle.hx_check_table.specs.Tables.{value_at}
use Rattle.hx_check_parts.specs.Ranges.{ranges_of}
use Rattle.hx_check_parts.specs.declared.ranges.Side.TheVariants.{Ask, Gave, Leaves}
use Rattle.hx_check_parts.specs.declared.sessions.Covered.{Covered}

-- where ranges end that follow each other, with one more
abbrev pub reach : Option ℕ → Span → Option ℕ
reach None s = None
reach (Some end) s = cond ((s.from == end) && not (nat_lt s.to s.from)) (Some s.to) None

-- from the first byte
abbrev pub reached : List Span → Option ℕ
reached spans = fold reach (Some 0) spans

-- the session of a record
abbrev pub session_in : Told → ThreadNo × SessionNo
session_in (told.Served s) = (s.worker, s.session)
session_in (told.Left x) = (x.worker, x.session)

-- the last record of the session stands at that index
pub record IsLastAt (t : ThreadNo) (n : SessionNo) (records : List Told) (k : ℕ) : Type 0 where
  pub within : k < length records
  pub here : ranges_of Ask t n (drop k records) ≢ []
  pub behind : ranges_of Ask t n (drop (k + 1) records) ≡ []

-- what the records tell of the session
pub record IsCovered (t : ThreadNo) (n : SessionNo) (records : List Told) (c : Covered) : Type 0 where
  pub last : MatchOption c.last (ranges_of Ask t n records ≡ []) (IsLastAt t n records)
  pub left : IsTrue c.left ↔ (ranges_of Leaves t n records ≢ [])
  pub asks : c.asks ≡ reached (ranges_of Ask t n records)
  pub gaves : c.gaves ≡ reached (ranges_of Gave t n records)

-- where a session has no record
abbrev pub covered_in : Option Covered → Covered
covered_in None = record { last = None; left = false; asks = Some 0; gaves = Some 0 }
covered_in (Some c) = c

-- a table has it of each session
abbrev pub KeepsSessions : List Told → Table Covered → Type 0
KeepsSessions records table =
    (t : ThreadNo) (n : SessionNo) → IsCovered t n records (covered_in (value_at table t.0 n.0 0))

-- the session's last record has that index, and its ranges end there
abbrev pub EndsAt : Covered → ℕ → ℕ → ℕ → Type 0
EndsAt c k took gave = (c.last ≡ Some k) × (c.asks ≡ Some took) × (c.gaves ≡ Some gave)
