-- Private: what holds of everything that is read, so that each configuration keeps the limits.
use Rattle.std.specs.Prelude.{◌≡◌, ℕ, ◌+◌, ◌≤◌, Bool, true, false, ◌||◌, List, [], ◌++◌, length, nat_le}
use Rattle.std.specs.List.{list_all, flat_map}
use Rattle.hx_config.specs.declared.parts.Server.{Server}
use Rattle.hx_base.specs.Names.{is_name}
use Rattle.hx_config.specs.declared.sections.Kind.{Kind}
use Rattle.hx_config.specs.declared.sections.Frontend.{Frontend}
use Rattle.hx_config.specs.declared.sections.Backend.{Backend}
use Rattle.hx_config.specs.declared.reading.Reading.{Reading}
use Rattle.hx_config.specs.Limits.{HasThreads, are_numbered, are_servers_named, has_names}
use Rattle.hx_config.specs.Sections.{has_front, has_back}

-- 1 where it holds
abbrev pub one_if : Bool → ℕ
one_if true = 1
one_if false = 0

-- the servers of the backends that have ended
abbrev pub ended_servers : List Backend → List Server
ended_servers backs = flat_map (λ b. b.back.servers) backs

-- these and the servers of the open section
abbrev pub servers_so_far : Reading → List Server
servers_so_far r = ended_servers r.backs ++ r.current.servers

-- each frontend that has ended has at most 16 addresses
abbrev pub few_binds : List Frontend → Bool
few_binds fronts = list_all (λ f. nat_le (length f.binds) 16) fronts

-- the sections that have ended have names, and the open one where it needs one
pub record HasNames (fronts : List Frontend) (backs : List Backend) (k : Kind) (name : List ℕ) (servers : List Server) : Type 0 where
  pub fronts_named : list_all (λ f. is_name f.name) fronts ≡ true
  pub backs_named : list_all (λ b. has_names b.back) backs ≡ true
  pub current_named : (has_front k || has_back k) ≡ true → is_name name ≡ true
  pub servers_named : are_servers_named servers ≡ true

-- what was read keeps the limits, and so does what may follow
pub record IsSound (r : Reading) : Type 0 where
  pub threads : HasThreads r.threads
  pub fronts : length r.fronts + one_if (has_front r.current.kind) ≤ 16
  pub backs : length r.backs + one_if (has_back r.current.kind) ≤ 16
  pub binds : few_binds r.fronts ≡ true
  pub current_binds : length r.current.binds ≤ 16
  pub numbered : are_numbered 0 (servers_so_far r) ≡ true
  pub count : length (servers_so_far r) ≡ r.servers
  pub few : r.servers ≤ 32
  pub names : HasNames r.fronts r.backs r.current.kind r.current.name r.current.servers
  pub stray : has_back r.current.kind ≡ false → r.current.servers ≡ []
