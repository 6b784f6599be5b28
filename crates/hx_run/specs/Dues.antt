-- What is to come at the moments of a script.
use Rattle.std.specs.Prelude.{◌≡◌, ◌<◌, ℕ, List, true, All, length}
use Rattle.std.specs.List.Sorted.{IsPermutation, IsNonDecreasingBy, IsStableByKey}
use Rattle.std.specs.Ordering.{nat_cmp}
use Rattle.hx_base.specs.declared.order.Order.{Order}
use Rattle.hx_caretaker.specs.Orders.{ordered_server}
use Rattle.hx_config.specs.Limits.{all_servers}
use Rattle.hx_config.specs.Meaning.{Meaning}
use Rattle.hx_script_parts.specs.Limits.{is_client_of}
use Rattle.hx_script_parts.specs.declared.script.ClientLine.{ClientLine}
use Rattle.hx_run.specs.declared.due.Due.{Due}

-- the order is to a server of the configuration
abbrev pub IsThere : Meaning → Order → Type 0
IsThere c what = (ordered_server what).0 < length (all_servers c.backs)

-- the clients and the orders that are to come are of the configuration
pub record AreDue (c : Meaning) (d : Due) : Type 0 where
  pub clients : All (λ x. is_client_of c x ≡ true) d.clients.items
  pub orders : All (λ x. IsThere c x.1) d.orders.items

-- when a client comes
abbrev pub moment_of : ClientLine → ℕ
moment_of line = line.moment.0

-- the clients of a script as they come: by moment, and those of one moment in the order of their lines
pub record ComeInOrder (clients ordered : List ClientLine) : Type 0 where
  pub same : IsPermutation clients ordered
  pub rising : IsNonDecreasingBy moment_of ordered
  pub ties : IsStableByKey moment_of nat_cmp clients ordered
