-- Totals that are added up.
use Rattle.std.specs.Prelude.{ℕ, ◌+◌, ◌-◌, ◌^◌, min}
use Rattle.hx_base.specs.declared.totals.Totals.{Totals}

-- the sum, or u64's greatest number
abbrev pub both : ℕ → ℕ → ℕ
both a b = min (a + b) (2 ^ 64 - 1)

-- number by number
abbrev pub sum_of : Totals → Totals → Totals
sum_of a b = record {
  opened = both a.opened b.opened;
  parked = both a.parked b.parked;
  taken = both a.taken b.taken;
  over = both a.over b.over;
  care = both a.care b.care;
  closed = both a.closed b.closed;
}
