-- What holds of each script.
use Rattle.std.specs.Prelude.{◌≡◌, ℕ, ◌+◌, ◌≤◌, Bool, true, false, ◌&&◌, not, ◌==◌, List, [], ◌∷◌, length, Option, Some, None, nat_le, nat_lt, slice_get, is_some}
use Rattle.std.specs.List.{list_all, list_any}
use Rattle.hx_base.specs.declared.numbers.Millis.{Millis}
use Rattle.hx_base.specs.declared.numbers.ServerNo.{ServerNo}
use Rattle.hx_base.specs.declared.order.Order.{Order}
use Rattle.hx_base.specs.declared.order.Order.TheVariants as order
use Rattle.hx_config.specs.Limits.{all_servers}
use Rattle.hx_config.specs.Meaning as config
use Rattle.hx_base.specs.declared.plan.Plan.{Plan}
use Rattle.hx_link.specs.Planned.{planned}
use Rattle.hx_script_parts.specs.declared.script.ClientLine.{ClientLine}

-- a number that may be missing, or is at least 1
abbrev pub is_positive : Option ℕ → Bool
is_positive None = true
is_positive (Some n) = nat_le 1 n

-- `room` and `fail` of a plan are at least 1
abbrev pub has_limits : Plan → Bool
has_limits p = is_positive p.room && is_positive p.fail

-- the frontend and the worker of a client are those of the configuration, and its plan has no server
abbrev pub is_client_of : config.Meaning → ClientLine → Bool
is_client_of c x =
    (nat_lt x.front (length c.fronts) && nat_lt x.worker.0 c.threads) && (not (is_some x.plan.server) && has_limits x.plan)

-- a server of the configuration has this number
abbrev pub is_server_of : config.Meaning → ServerNo → Bool
is_server_of c n = list_any (λ s. s.no.0 == n.0) (all_servers c.backs)

-- the plan is of a server of the configuration
abbrev pub dials : config.Meaning → Option ServerNo → Bool
dials c None = false
dials c (Some n) = is_server_of c n

-- the plan is of a server of the configuration, and its numbers are at least 1
abbrev pub is_plan_of : config.Meaning → Plan → Bool
is_plan_of c p = dials c p.server && has_limits p

-- the server of an order
abbrev pub server_of : Order → ServerNo
server_of (order.Drain s) = s
server_of (order.Ready s) = s

-- the order is to a server of the configuration
abbrev pub is_order_of : config.Meaning → Millis × Order → Bool
is_order_of c x = is_server_of c (server_of x.1)

-- the first moment is later
abbrev pub comes_before : Millis → List Millis → Bool
comes_before m [] = true
comes_before m (n ∷ ns) = nat_lt m.0 n.0

-- each moment is later than the one before it
abbrev pub are_rising : List Millis → Bool
are_rising [] = true
are_rising (m ∷ ms) = comes_before m ms && are_rising ms

-- the greatest length of a text
abbrev pub longest_text : ℕ
longest_text = 1048576

-- how many bytes the pieces of clients' links have
abbrev pub client_bytes : List ClientLine → ℕ
client_bytes [] = 0
client_bytes (x ∷ xs) = length (planned x.plan.pieces) + client_bytes xs

-- how many bytes the pieces of plans have
abbrev pub plan_bytes : List Plan → ℕ
plan_bytes [] = 0
plan_bytes (p ∷ ps) = length (planned p.pieces) + plan_bytes ps

-- a script within its limits, whose links have no more bytes than a text may have, and whose moments rise from 0
pub record IsWithin (c : config.Meaning) (clients : List ClientLine) (plans : List Plan) (orders : List (Millis × Order)) (moments : List Millis) : Type 0 where
  pub clients_in : length clients ≤ 1000
  pub plans_in : length plans ≤ 4096
  pub clients_hold : list_all (is_client_of c) clients ≡ true
  pub plans_hold : list_all (is_plan_of c) plans ≡ true
  pub orders_hold : list_all (is_order_of c) orders ≡ true
  pub bytes_in : client_bytes clients + plan_bytes plans ≤ longest_text
  pub begins : slice_get moments 0 ≡ Some (record { 0 = 0 })
  pub rising : are_rising moments ≡ true
