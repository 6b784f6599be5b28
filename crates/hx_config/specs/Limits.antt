-- The limits of a configuration, and the order of its servers.
use Rattle.std.specs.Prelude.{◌≡◌, ℕ, ◌+◌, ◌≤◌, Bool, true, false, ◌&&◌, not, List, [], ◌∷◌, length, Option, Some, None, ◌==◌, nat_le, slice_get}
use Rattle.std.specs.List.{list_all, flat_map}
use Rattle.hx_base.specs.Names.{is_name}
use Rattle.hx_config.specs.declared.parts.Server.{Server}
use Rattle.hx_config.specs.declared.parts.Back.{Back}
use Rattle.hx_config.specs.declared.parts.Front.{Front}

-- there are 1 to 16 threads
abbrev pub HasThreads : ℕ → Type 0
HasThreads n = (1 ≤ n) × (n ≤ 16)

-- each frontend has at most 16 addresses
abbrev pub has_few_binds : List Front → Bool
has_few_binds fronts = list_all (λ f. nat_le (length f.binds) 16) fronts

-- the servers of all backends, in order
abbrev pub all_servers : List Back → List Server
all_servers backs = flat_map (λ b. b.servers) backs

-- the servers have the numbers from n on, in order
unfoldable pub are_numbered : ℕ → List Server → Bool
are_numbered n [] = true
are_numbered n (s ∷ ss) = s.no.0 == n && are_numbered (n + 1) ss

-- each frontend has a name
abbrev pub are_fronts_named : List Front → Bool
are_fronts_named fronts = list_all (λ f. is_name f.name) fronts

-- each server has a name
abbrev pub are_servers_named : List Server → Bool
are_servers_named servers = list_all (λ s. is_name s.name) servers

-- a backend and its servers have names
abbrev pub has_names : Back → Bool
has_names b = is_name b.name && are_servers_named b.servers

-- there is a backend, and it has a server
abbrev pub serves : Option Back → Bool
serves None = false
serves (Some b) = not (length b.servers == 0)

-- each frontend's backend is there, and has a server
abbrev pub are_served : List Front → List Back → Bool
are_served fronts backs = list_all (λ f. serves (slice_get backs f.back)) fronts

-- a configuration within its limits, whose frontends have backends with servers, and whose names are names
pub record IsWithin (threads : ℕ) (fronts : List Front) (backs : List Back) : Type 0 where
  pub threads_in : HasThreads threads
  pub fronts_in : length fronts ≤ 16
  pub backs_in : length backs ≤ 16
  pub binds_in : has_few_binds fronts ≡ true
  pub servers_in : length (all_servers backs) ≤ 32
  pub numbered : are_numbered 0 (all_servers backs) ≡ true
  pub served : are_served fronts backs ≡ true
  pub fronts_named : are_fronts_named fronts ≡ true
  pub backs_named : list_all has_names backs ≡ true
