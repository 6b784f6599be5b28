-- What a replay asks of its caretaker, and when: orders and rounds.
use Rattle.std.specs.Prelude.{◌≡◌, ◌≢◌, ℕ, zero, suc, ◌==◌, ◌-◌, Bool, List, [], ◌∷◌, ◌++◌, All, Contains, IfSome, filter, length, map, slice_get}
use Rattle.std.specs.List.{flat_map}
use Rattle.std.specs.List.Sorted.{IsNonDecreasingBy, IsStableByKey}
use Rattle.std.specs.Ordering.{nat_cmp}
use Rattle.hx_base.specs.declared.numbers.Millis.{Millis}
use Rattle.hx_base.specs.declared.order.Order.{Order}
use Rattle.hx_base.specs.declared.order.Order.TheVariants.{Drain}
use Rattle.hx_config.specs.Limits.{all_servers}
use Rattle.hx_script_parts.specs.Meaning.{Meaning as Script}

-- an order, or a round at a moment
pub data Care : Type 0 where
  Ordered : Order → Care
  Ticked : Millis → Care

-- an order that is due at its moment
abbrev pub DueOrder : Type 0
DueOrder = Millis × Order

-- the order is of that moment
abbrev pub is_at : Millis → DueOrder → Bool
is_at now x = x.0.0 == now.0

-- the orders of a moment, as they stand in the list
abbrev pub orders_at : Millis → List DueOrder → List Order
orders_at now orders = map (λ (x : DueOrder). x.1) (filter (is_at now) orders)

-- at a moment its orders, in order, and then a round
abbrev pub moment_cares : List DueOrder → Millis → List Care
moment_cares orders now = map Ordered (orders_at now orders) ++ Ticked now ∷ []

-- at each of these moments, in order
abbrev pub cares_at : List DueOrder → List Millis → List Care
cares_at orders moments = flat_map (moment_cares orders) moments

-- a drain of each server whose number is below n, in order
abbrev pub drains_below : ℕ → List Care
drains_below zero = []
drains_below (suc n) = drains_below n ++ Ordered (Drain (record { 0 = n })) ∷ []

-- of a whole replay of a script: at each moment its orders in the order of their lines, and then a round; and behind the last moment a
-- drain of each server
abbrev pub all_cares : Script → List Care
all_cares script = cares_at script.orders script.moments ++ drains_below (length (all_servers script.config.backs))

-- when an order is due
abbrev pub order_moment : DueOrder → ℕ
order_moment x = x.0.0

-- orders by moment, and those of one moment in the order of their lines
pub record StandInOrder (orders ordered : List DueOrder) : Type 0 where
  pub rising : IsNonDecreasingBy order_moment ordered
  pub ties : IsStableByKey order_moment nat_cmp orders ordered

-- of these orders, at these moments that are to come, just those are due that are of one of them, by moment
pub record AreToCome (orders : List DueOrder) (moments : List Millis) (due : List DueOrder) : Type 0 where
  pub among : All (λ (x : DueOrder). Contains moments x.0) due
  pub same : (now : Millis) → Contains moments now → filter (is_at now) due ≡ filter (is_at now) orders
  pub rising : IsNonDecreasingBy order_moment due

-- the last order of the list is of no such moment
abbrev pub LastIsOther : Millis → List DueOrder → Type 0
LastIsOther now due = IfSome (slice_get due (length due - 1)) (λ x. x.0.0 ≢ now.0)
