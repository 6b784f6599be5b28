-- What values under numbers end as, where a `&mut` to one of them is returned.
use Rattle.std.specs.Prelude.{ℕ, Option}
use Rattle.std.specs.Borrow.{LendsIf, Fml, RattleType, MutBor}
use Rattle.hx_numbered.specs.Numbered.{Numbered, with_value_at}
use Rattle.hx_numbered.specs.contracts.numbered.Numbered.{the_row}

-- once the borrow r ends, the number has the last value written through r, and at `None` nothing changed
abbrev pub lends_value : (T : RattleType) → MutBor (Numbered T.Denot) → ℕ → Option (MutBor T.Denot) → Fml
lends_value T s n r = LendsIf (the_row T) T s r (with_value_at s.now n) s.now
