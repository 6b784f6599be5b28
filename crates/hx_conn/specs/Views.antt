-- Private: how the fields of a connection stand for what it tells, and what always holds of them.
use Rattle.std.specs.Prelude.{◌≡◌, ℕ}
use Rattle.hx_base.specs.declared.numbers.ConnId.{ConnId}
use Rattle.hx_base.specs.declared.numbers.ServerNo.{ServerNo}
use Rattle.hx_link.specs.Told.{LinkState}
use Rattle.hx_conn.specs.declared.exchange.Exchange.{Exchange}
use Rattle.hx_conn.specs.Conns.{RestedNow, IsRested, BusyNow, IsBusy}

-- the value of a resting connection
abbrev pub rested_now : LinkState → ConnId → ServerNo → ℕ → RestedNow
rested_now link id server uses = record { link = link; id = id; server = server; uses = uses }

-- the value of a busy connection
abbrev pub busy_now : LinkState → ConnId → ServerNo → ℕ → Exchange → BusyNow
busy_now link id server uses exchange =
    record { link = link; id = id; server = server; uses = uses; exchange = exchange }

-- the counters are those of the link
pub record KeepsRested (r : RestedNow) (s t : ℕ) : Type 0 where
  pub meaning : IsRested r
  pub sent : s ≡ r.link.sent_count
  pub taken : t ≡ r.link.taken_count

-- what a busy connection keeps beside its link
pub record KeepsBusy (b : BusyNow) (s t : ℕ) : Type 0 where
  pub meaning : IsBusy b
  pub sent : s ≡ b.link.sent_count
  pub taken : t ≡ b.link.taken_count
