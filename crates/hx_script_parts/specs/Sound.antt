-- Private: what holds of everything that is read, so that each script keeps the limits.
use Rattle.std.specs.Prelude.{◌≡◌, ℕ, ◌+◌, ◌≤◌, Bool, true, ◌&&◌, length, Option, Some, None, nat_lt}
use Rattle.std.specs.List.{list_all}
use Rattle.hx_config.specs.Meaning as config
use Rattle.hx_link.specs.Planned.{planned}
use Rattle.hx_script_parts.specs.declared.reading.Owner.{Owner}
use Rattle.hx_script_parts.specs.declared.reading.Owner.TheVariants as owner
use Rattle.hx_script_parts.specs.declared.reading.OpenLink.{OpenLink}
use Rattle.hx_script_parts.specs.declared.reading.Reading.{Reading}
use Rattle.hx_script_parts.specs.Limits.{is_positive, is_client_of, is_server_of, is_plan_of, is_order_of, are_rising, client_bytes, plan_bytes}
use Rattle.hx_script_parts.specs.Reading.{as_moments}

-- how many clients the link is
abbrev pub clients_in : Owner → ℕ
clients_in (owner.Client front worker moment) = 1
clients_in (owner.Server server refuse) = 0

-- how many plans the link is
abbrev pub plans_in : Owner → ℕ
plans_in (owner.Client front worker moment) = 0
plans_in (owner.Server server refuse) = 1

-- its frontend and its worker, or its server, are those of the configuration
abbrev pub is_owner_of : config.Meaning → Owner → Bool
is_owner_of c (owner.Client front worker moment) = nat_lt front (length c.fronts) && nat_lt worker.0 c.threads
is_owner_of c (owner.Server server refuse) = is_server_of c server

-- how many clients the open link is
abbrev pub clients_open : Option OpenLink → ℕ
clients_open None = 0
clients_open (Some l) = clients_in l.owner

-- how many plans the open link is
abbrev pub plans_open : Option OpenLink → ℕ
plans_open None = 0
plans_open (Some l) = plans_in l.owner

-- the open link is one of the configuration, and its numbers are at least 1
abbrev pub is_link_of : config.Meaning → Option OpenLink → Bool
is_link_of c None = true
is_link_of c (Some l) = is_owner_of c l.owner && (is_positive l.room && is_positive l.fail)

-- how many bytes the open link has
abbrev pub bytes_open : Option OpenLink → ℕ
bytes_open None = 0
bytes_open (Some l) = length (planned l.pieces)

-- how many bytes the links have so far
abbrev pub bytes_so_far : Reading → ℕ
bytes_so_far r = client_bytes r.clients + plan_bytes r.plans + bytes_open r.current

-- what was read keeps the limits, and its links have at most so many bytes
pub record IsSound (c : config.Meaning) (most : ℕ) (r : Reading) : Type 0 where
  pub clients : length r.clients + clients_open r.current ≤ 1000
  pub plans : length r.plans + plans_open r.current ≤ 4096
  pub clients_hold : list_all (is_client_of c) r.clients ≡ true
  pub plans_hold : list_all (is_plan_of c) r.plans ≡ true
  pub orders_hold : list_all (is_order_of c) r.orders ≡ true
  pub current : is_link_of c r.current ≡ true
  pub bytes : bytes_so_far r ≤ most
  pub rising : are_rising (as_moments r.moments) ≡ true
