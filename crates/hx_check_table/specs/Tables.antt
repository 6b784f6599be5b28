-- What a table has at three numbers.
use Rattle.std.specs.Prelude.{ℕ, Option}
use Rattle.std.specs.declared.cmp.Ordering.{Ordering}
use Rattle.std.specs.Ordering.{nat_cmp, ordering_then}
use Rattle.std.specs.BTreeMap.{get}
use Rattle.hx_check_table.specs.declared.table.Table.{Table}

-- by the first number, then by the second, then by the third
abbrev pub cmp_numbers : (ℕ × ℕ × ℕ) → (ℕ × ℕ × ℕ) → Ordering
cmp_numbers x y = ordering_then (ordering_then (nat_cmp x.0 y.0) (nat_cmp x.1 y.1)) (nat_cmp x.2 y.2)

-- the value at the numbers
abbrev pub value_at : {X : Type 0} → Table X → ℕ → ℕ → ℕ → Option X
value_at table a b c = get cmp_numbers table.map (a, b, c)
