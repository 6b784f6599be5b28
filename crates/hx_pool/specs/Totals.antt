-- How often each thing was done, by the entries.
use Rattle.std.specs.Prelude.{ℕ, ◌+◌, ◌-◌, ◌^◌, ◌==◌, min, cond, List, [], ◌∷◌}
use Rattle.hx_base.specs.declared.totals.Totals.{Totals}
use Rattle.hx_pool.specs.declared.entries.Entry.{Entry}
use Rattle.hx_pool.specs.declared.entries.Entry.TheVariants.{Open, Park, Take, Close}

-- nothing was counted yet
abbrev pub no_totals : Totals
no_totals = record { opened = 0; parked = 0; taken = 0; over = 0; care = 0; closed = 0 }

-- one more, or u64's greatest number
abbrev pub one_more : ℕ → ℕ
one_more k = min (k + 1) (2 ^ 64 - 1)

-- a take of the caretaker, of a session in its thread's row, or of a session in another row
abbrev pub totals_after : Totals → Entry → Totals
totals_after s (Open t n id) = record s { opened = one_more s.opened }
totals_after s (Park t n id place uses) = record s { parked = one_more s.parked }
totals_after s (Take t n first place id uses) = cond (n.0 == 0) (record s { care = one_more s.care }) (cond (place.row == t.0) (record s { taken = one_more s.taken }) (record s { over = one_more s.over }))
totals_after s (Close t n id) = record s { closed = one_more s.closed }
totals_after s _ = s

-- the totals after these entries more
abbrev pub totals_from : Totals → List Entry → Totals
totals_from s [] = s
totals_from s (e ∷ es) = totals_from (totals_after s e) es

-- the totals of the entries
abbrev pub totals_of : List Entry → Totals
totals_of es = totals_from no_totals es
